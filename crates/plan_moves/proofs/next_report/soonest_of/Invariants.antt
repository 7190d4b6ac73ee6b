use Rattle.std.proofs.Common.{ℕ, ◌<◌}
use Rattle.plan_moves.specs.Soonest.{IsPassedOver}
use Rattle.plan_moves.proofs.next_report.soonest_of.Given as goal

-- the turns looked at are passed over
abbrev pub invariant-loop-turn : goal.invariant-loop-turn
invariant-loop-turn g l = (k : ℕ) → k < l.turn → IsPassedOver l.controller.planned l.present l.controller.cell k
