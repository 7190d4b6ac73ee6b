use Rattle.std.proofs.Common.{ℕ, ◌<◌, ◌≤◌, ◌≢◌}
use Rattle.shop_base.specs.Plan.{machine_of}
use Rattle.plan_verifier.proofs.cell_bounds.is_first_ahead.Given as goal

-- none of the steps that were looked at is on the machine
abbrev pub invariant-loop-step : goal.invariant-loop-step
invariant-loop-step g l = (k : ℕ) → l.step ≤ k → k < l.fn.node.place → machine_of l.cell.plan l.fn.node.job k ≢ l.machine
