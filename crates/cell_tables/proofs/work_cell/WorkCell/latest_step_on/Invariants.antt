use Rattle.std.proofs.Common.{ℕ, ◌<◌, ◌≤◌}
use Rattle.shop_base.specs.Plan.{Visits}
use Rattle.cell_tables.proofs.work_cell.WorkCell.latest_step_on.Given as goal

-- none of the steps from this one on that the job has entered is on the machine
abbrev pub invariant-loop-step : goal.invariant-loop-step
invariant-loop-step g l = (k : ℕ) → l.step ≤ k → k < l.made → Visits l.self.plan l.job k l.machine → ⊥
