-- The law of the start: of a run that hasn't begun the rest is the whole plan.
use Rattle.std.specs.Prelude.{◌≡◌, ◌↔◌}
use Rattle.shop_base.specs.declared.node.Node.{Node}
use Rattle.shop_base.specs.Plan.{PlannedShop}
use Rattle.shop_base.specs.Cell.{start}
use Rattle.shop_base.specs.Graph.{IsNode, MeetBudgets}
use Rattle.shop_base.specs.Ahead.{MeetBudgetsAhead}
use Rattle.alt_graph.specs.Times.{NodeTimes, earliest_of, AreOrdered}
use Rattle.plan_verifier.specs.Rest.{AreOrderedAhead}
use Rattle.plan_verifier.specs.RestVerdicts.{IsAcceptableAhead}

-- from the start and moment 0 on each node has the earliest moment that it has in the whole plan; so the budgets are met where they are there, and just then the rest is one to be accepted
abbrev pub TheRestOfTheStartIsThePlan : Type 0
TheRestOfTheStartIsThePlan = (p : PlannedShop) (whole rest : NodeTimes) → AreOrdered p whole → AreOrderedAhead p (start p) 0 rest
    → ((v : Node) → IsNode p v → earliest_of rest v ≡ earliest_of whole v) × (MeetBudgetsAhead p (start p) (earliest_of rest) ↔ MeetBudgets p (earliest_of whole))
    × (IsAcceptableAhead p (start p) 0 ↔ MeetBudgets p (earliest_of whole))
