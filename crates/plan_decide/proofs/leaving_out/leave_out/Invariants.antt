use Rattle.plan_decide.specs.Settings.{case_in}
use Rattle.plan_decide.specs.LeftOut.{IsLeft}
use Rattle.plan_decide.proofs.leaving_out.leave_out.Given as goal

-- the jobs from this one on were asked about
abbrev pub invariant-loop-job : goal.invariant-loop-job
invariant-loop-job g l = IsLeft (case_in l.setting) l.left l.job
