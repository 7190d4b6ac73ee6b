-- The ranks and the earliest moments of the rest of a run, from a cell and a present moment.
use Rattle.std.specs.Prelude.{◌≡◌, ℕ, ◌<◌, ◌≤◌, List, length}
use Rattle.shop_base.specs.declared.node.Node.{Node}
use Rattle.shop_base.specs.Plan.{PlannedShop, jobs}
use Rattle.shop_base.specs.Cell.{Cell, since, IsGone}
use Rattle.shop_base.specs.Graph.{IsNode, leaving}
use Rattle.shop_base.specs.Ahead.{IsAhead, PathAhead, IsScheduleAhead}
use Rattle.alt_graph.specs.Evidence.{node_count}
use Rattle.plan_verifier.specs.Held.{BeginHeldUp}
use Rattle.alt_graph.specs.Times.{NodeTimes, rank_of, earliest_of, AreRanks, IsPathFromBy}
use Rattle.alt_graph.specs.declared.solving.Solved.{Solved}
use Rattle.alt_graph.specs.declared.solving.Solved.TheVariants.{Ordered, Cyclic}

-- ranks of all nodes, and a schedule of what is ahead, whose moments are the greatest lengths of paths ahead
pub record AreOrderedAhead (p : PlannedShop) (c : Cell) (present : ℕ) (t : NodeTimes) : Type 0 where
  pub ranks : AreRanks p t
  pub schedule : IsScheduleAhead p c present (rank_of t) (earliest_of t)
  pub reached : (v : Node) → IsNode p v → IsAhead c v → (nodes : List Node) × PathAhead p c present nodes v (earliest_of t v)
  pub greatest : (nodes : List Node) (v : Node) (n : ℕ) → PathAhead p c present nodes v n → n ≤ earliest_of t v
  -- a chain to a node ahead is such a path, from a node that is held up
  pub chains : (nodes : List Node) (v : Node) → IsNode p v → IsAhead c v → IsPathFromBy t v nodes → PathAhead p c present nodes v (earliest_of t v) × BeginHeldUp p c nodes
  -- the moment of the leaving of a job that is gone is that at which it left
  pub left : (j : ℕ) → j < jobs p → IsGone p c j → earliest_of t (leaving p j) ≡ since c j

-- the greatest length of a path ahead to the node
pub record IsGreatestAhead (p : PlannedShop) (c : Cell) (present : ℕ) (v : Node) (n : ℕ) : Type 0 where
  pub reached : (nodes : List Node) × PathAhead p c present nodes v n
  pub longest : (nodes : List Node) (k : ℕ) → PathAhead p c present nodes v k → k ≤ n

-- the evidence of a moment that can't be earlier: a path ahead, with the greatest length that one along these nodes has, and no more nodes than there are
pub record IsChainAhead (p : PlannedShop) (c : Cell) (present : ℕ) (nodes : List Node) (n : ℕ) : Type 0 where
  pub few : length nodes ≤ node_count p
  pub path : (v : Node) × PathAhead p c present nodes v n
  pub greatest : (v : Node) (k : ℕ) → PathAhead p c present nodes v k → k ≤ n

-- where the graph has no cycle
abbrev pub OnOrderedAhead : PlannedShop → Cell → ℕ → Solved → Type 0
OnOrderedAhead p c present (Ordered times) = AreOrderedAhead p c present times
OnOrderedAhead p c present (Cyclic nodes) = Unit {0}
