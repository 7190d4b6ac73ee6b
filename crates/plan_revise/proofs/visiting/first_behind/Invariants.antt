use Rattle.std.proofs.Common.{ℕ, ◌≢◌, ◌<◌, ◌≤◌, length, get_or}
use Rattle.plan_revise.proofs.visiting.first_behind.Given as goal

-- from this place on the job isn't in the order
abbrev pub invariant-loop-place : goal.invariant-loop-place
invariant-loop-place l = (b : ℕ) → l.place ≤ b → b < length l.order → get_or l.order b 0 ≢ l.job
