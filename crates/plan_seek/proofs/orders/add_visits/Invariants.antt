use Rattle.shop_base.specs.Vectors.{lists_of}
use Rattle.plan_seek.specs.Growing.{IsGrown}
use Rattle.plan_seek.proofs.Rows.{visits_to}
use Rattle.plan_seek.proofs.orders.add_visits.Given as goal

-- the visits of the steps so far were added
abbrev pub invariant-loop-step : goal.invariant-loop-step
invariant-loop-step l = IsGrown (lists_of l.initial.orders.items) (lists_of l.orders.items) (visits_to l.route l.job l.step-index)
