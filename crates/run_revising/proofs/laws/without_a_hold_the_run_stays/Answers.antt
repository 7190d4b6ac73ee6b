use Rattle.run_revising.proofs.NextRunsGoOn.{alone_without_a_hold}
use Rattle.run_revising.proofs.laws.without_a_hold_the_run_stays.Goals as goal

pub returns : goal.returns
returns c = alone_without_a_hold
