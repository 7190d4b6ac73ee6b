use Rattle.std.proofs.Common.{ℕ, ◌<◌, ◌≤◌}
use Rattle.shop_base.specs.{Plan.Visits, Cell.made}
use Rattle.plan_schedule.proofs.calendar.next_place_on.Given as goal

-- none of the steps looked at is on the machine
abbrev pub invariant-loop-place : goal.invariant-loop-place
invariant-loop-place g l = (k : ℕ) → made l.cell.cell l.job ≤ k → k < l.place → Visits l.cell.plan l.job k l.machine → ⊥
