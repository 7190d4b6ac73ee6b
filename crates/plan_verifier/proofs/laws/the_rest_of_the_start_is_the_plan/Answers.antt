use Rattle.std.proofs.Common.{◌≡◌, ◌↔◌, ℕ, ◌<◌, ◌≤◌, arith}
use Rattle.shop_base.specs.declared.node.Node.{Node}
use Rattle.shop_base.specs.{Plan.{PlannedShop, jobs}, Cell.{made, start}, Graph.{IsNode, leaving, MeetBudgets}, Ahead.MeetBudgetsAhead}
use Rattle.shop_base.proofs.Keeping.{start-made}
use Rattle.alt_graph.specs.Times.{NodeTimes, rank_of, earliest_of, AreOrdered}
use Rattle.plan_verifier.specs.{Rest.AreOrderedAhead, RestVerdicts.IsAcceptableAhead}
use Rattle.plan_verifier.proofs.{Acceptable.{leaving_node, acceptable_ahead}, AtStart.{ordered_ahead, nobody_gone}}
use Rattle.plan_verifier.proofs.laws.the_rest_of_the_start_is_the_plan.Goals as goal

module _ (p : PlannedShop) (whole rest : NodeTimes) (ordered : AreOrdered p whole) (ahead : AreOrderedAhead p (start p) 0 rest) where
  -- the earliest moments of both are the greatest lengths
  same : (v : Node) → IsNode p v → earliest_of rest v ≡ earliest_of whole v
  same v is =
      let there : AreOrderedAhead p (start p) 0 whole = ordered_ahead p whole ordered in
      let at_start : made (start p) v.job ≤ v.place = omega (arith, start-made p v.job is.job) in
      let (nodes, path) = ahead.reached v is at_start in
      let (others, other) = there.reached v is at_start in
      omega (arith, there.greatest nodes v (earliest_of rest v) path, ahead.greatest others v (earliest_of whole v) other)

  leaving_same : (j : ℕ) → j < jobs p → earliest_of rest (leaving p j) ≡ earliest_of whole (leaving p j)
  leaving_same j inside = same (leaving p j) (leaving_node p j inside)

  budgets_same : MeetBudgetsAhead p (start p) (earliest_of rest) ↔ MeetBudgets p (earliest_of whole)
  budgets_same = (
    λ meets j inside. omega (arith, meets j inside (nobody_gone p j inside), leaving_same j inside),
    λ meets j inside here. omega (arith, meets j inside, leaving_same j inside),
  )

  acceptable_same : IsAcceptableAhead p (start p) 0 ↔ MeetBudgets p (earliest_of whole)
  acceptable_same = (there, λ meets. acceptable_ahead p (start p) 0 (rank_of rest) (earliest_of rest) ahead.schedule.ranks ahead.greatest (budgets_same.1 meets))
    where
      there : IsAcceptableAhead p (start p) 0 → MeetBudgets p (earliest_of whole)
      there is j inside =
          let (nodes, path) = ahead.reached (leaving p j) (leaving_node p j inside) (omega (arith, start-made p j inside)) in
          omega (arith, is.budgets j inside (nobody_gone p j inside) nodes (earliest_of rest (leaving p j)) path, leaving_same j inside)

pub returns : goal.returns
returns c p whole rest ordered ahead = (same p whole rest ordered ahead, budgets_same p whole rest ordered ahead, acceptable_same p whole rest ordered ahead)
