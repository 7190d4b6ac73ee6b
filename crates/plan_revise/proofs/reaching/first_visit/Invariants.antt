use Rattle.std.proofs.Common.{ℕ, ◌≢◌, ◌<◌}
use Rattle.shop_base.specs.Shop.{step_at}
use Rattle.plan_revise.proofs.reaching.first_visit.Given as goal

-- no earlier step is on the machine
abbrev pub invariant-loop-step : goal.invariant-loop-step
invariant-loop-step l = (k : ℕ) → k < l.step → (step_at l.route k).machine ≢ l.machine
