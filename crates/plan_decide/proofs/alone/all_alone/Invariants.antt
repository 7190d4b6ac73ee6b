use Rattle.plan_decide.specs.Settings.{case_in}
use Rattle.plan_decide.specs.Listed.{AreAllAlone}
use Rattle.plan_decide.proofs.alone.all_alone.Given as goal

-- of the jobs before this one all are listed
abbrev pub invariant-loop-job : goal.invariant-loop-job
invariant-loop-job g l = AreAllAlone (case_in l.setting) l.standings l.job l.listed.items
