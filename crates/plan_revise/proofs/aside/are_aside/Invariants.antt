use Rattle.std.proofs.Common.{ℕ, ◌<◌}
use Rattle.shop_base.specs.Plan.{job_at}
use Rattle.plan_revise.specs.Aside.{IsAsideJob}
use Rattle.plan_revise.proofs.aside.are_aside.Given as goal

-- the jobs at the places before this one could be
abbrev pub invariant-loop-place : goal.invariant-loop-place
invariant-loop-place l = (a : ℕ) → a < l.place → IsAsideJob l.shaped (job_at l.shaped l.machine a)
