-- What is to be accepted: no moment that is kept is exceeded by a path, and those of the leavings meet the budgets.
use Rattle.std.proofs.Common.{ℕ, ◌+◌, ◌<◌, ◌≤◌, List, length, arith}
use Rattle.std.proofs.lemmas.List.{length_push}
use Rattle.shop_base.specs.{declared.node.Node.Node, Plan.{PlannedShop, jobs, budget}, Cell.Cell}
use Rattle.shop_base.specs.{Graph.{IsNode, leaving, RanksRise}, Ahead.{MeetBudgetsAhead, PathAhead}}
use Rattle.shop_base.proofs.Cycles.{ranks_exclude_cycle}
use Rattle.alt_graph.specs.{Bounds.{NodeBounds, PathFrom, begins_at, goes_along}, Evidence.node_count, Solved.HasCycle}
use Rattle.alt_graph.specs.Times.{NodeTimes, rank_of, AreTimesFrom, IsPathFromBy}
use Rattle.plan_verifier.specs.RestVerdicts.{IsAcceptableAhead}

-- the leaving of a job is a node
pub leaving_node : (p : PlannedShop) (j : ℕ) → j < jobs p → IsNode p (leaving p j)
leaving_node p j inside = record { job = inside; place = omega arith }

pub acyclic : (p : PlannedShop) (rank : Node → ℕ) → RanksRise p rank → HasCycle p → ⊥
acyclic p rank rise (nodes, cycle) = ranks_exclude_cycle p rank nodes rise cycle

-- whichever paths they are, a job whose leaving is kept within its budget has none that is longer
pub within_budget : (p : PlannedShop) (Leads : List Node → Node → ℕ → Type 0) (kept : Node → ℕ) → ((nodes : List Node) (v : Node) (n : ℕ) → Leads nodes v n → n ≤ kept v)
    → (j : ℕ) → kept (leaving p j) ≤ budget p j → (nodes : List Node) (n : ℕ) → Leads nodes (leaving p j) n → n ≤ budget p j
within_budget p Leads kept greatest j le nodes n path = omega (arith, greatest nodes (leaving p j) n path)

pub acceptable_ahead : (p : PlannedShop) (c : Cell) (t : ℕ) (rank kept : Node → ℕ) → RanksRise p rank → ((nodes : List Node) (v : Node) (n : ℕ) → PathAhead p c t nodes v n → n ≤ kept v)
    → MeetBudgetsAhead p c kept → IsAcceptableAhead p c t
acceptable_ahead p c t rank kept rise greatest meets =
    record { acyclic = acyclic p rank rise; budgets = λ j inside here. within_budget p (PathAhead p c t) kept greatest j (meets j inside here) }

module _ (p : PlannedShop) (b : NodeBounds) where
  -- a path has no more nodes than its last one's rank and one
  path_few : (rank : Node → ℕ) (nodes : List Node) (v : Node) (n : ℕ) → RanksRise p rank → PathFrom p b nodes v n → length nodes ≤ rank v + 1
  path_few rank _ _ _ rise (begins_at v n is recorded) = omega arith
  path_few rank _ _ _ rise (goes_along nodes u v n d path ahead arc) = omega (arith, path_few rank nodes u n rise path, rise u v d arc, length_push nodes v)

  -- so a path by the times has no more than there are
  pub chain_few : (times : NodeTimes) (v : Node) (nodes : List Node) → AreTimesFrom p b times → IsNode p v → IsPathFromBy times v nodes → length nodes ≤ node_count p
  chain_few times v nodes are is chain = omega (arith, path_few (rank_of times) nodes v _ are.ranks.rise (chain p b are), are.ranks.few v is)
