use Rattle.plan_revise.proofs.Outcomes.{no_cycle}
use Rattle.plan_revise.proofs.laws.no_cycle_comes.Goals as goal

pub returns : goal.returns
returns c = no_cycle
