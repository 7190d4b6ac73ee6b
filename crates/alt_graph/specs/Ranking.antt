-- A ranking under way: which nodes have ranks, what may be ranked next, and which nodes still wait for others.
use Rattle.std.specs.Prelude.{◌≡◌, ◌≢◌, ◌==◌, ℕ, ◌+◌, ◌*◌, ◌<◌, ◌≤◌, ◌⊎◌, if◌then◌else◌, List, length, slice_index, sum_by, None, Some}
use Rattle.shop_base.specs.declared.node.Node.{Node}
use Rattle.shop_base.specs.declared.limits.TheConstants.{MAX_NOMINAL}
use Rattle.shop_base.specs.Plan.{PlannedShop, jobs, steps}
use Rattle.shop_base.specs.Graph.{node, Arc, IsNode}
use Rattle.alt_graph.specs.declared.times.NodeTime.{NodeTime}
use Rattle.alt_graph.specs.declared.times.TheConstants.{UNRANKED}
use Rattle.alt_graph.specs.declared.ranking.Longest.{Longest}
use Rattle.alt_graph.specs.declared.sources.ArcIn.{ArcIn}
use Rattle.alt_graph.specs.Times.{NodeTimes, time_at, rank_of, earliest_of, before_of, IsAttainedFrom}
use Rattle.alt_graph.specs.Bounds.{NodeBounds, AreRooted, IsAheadOf, bound_of, MAX_BOUND}
use Rattle.alt_graph.specs.Layout.{by_job}
use Rattle.alt_graph.specs.PlanGraph.{PlanGraph, IsSoundGraph}
use Rattle.alt_graph.specs.Places.{node_at}

-- a ranking as contracts see it: the plan, the bounds, the ranked nodes in the order of their ranks, and what is known of all nodes
pub record PlanRanking : Type 0 where
  pub plan : PlannedShop
  pub bounds : NodeBounds
  pub done : List Node
  pub times : NodeTimes

-- the node has a rank
abbrev pub IsRanked : NodeTimes → Node → Type 0
IsRanked t v = rank_of t v ≢ UNRANKED

-- it is a node of the plan, and has none
pub record IsUnranked (r : PlanRanking) (v : Node) : Type 0 where
  pub node : IsNode r.plan v
  pub free : rank_of r.times v ≡ UNRANKED

-- all nodes have ranks
abbrev pub AreAllRanked : PlanRanking → Type 0
AreAllRanked r = (v : Node) → IsNode r.plan v → IsRanked r.times v

-- all nodes of job j have ranks
abbrev pub IsJobRanked : PlanRanking → ℕ → Type 0
IsJobRanked r j = (k : ℕ) → k ≤ steps r.plan j → IsRanked r.times (node j k)

-- an arc leads to v from a node that has no rank below n
abbrev pub WaitsFor : PlanRanking → ℕ → Node → Type 0
WaitsFor r n v = (u : Node) × (d : ℕ) × Arc r.plan u v d × (n ≤ rank_of r.times u)

-- v may come directly after the sources of the arcs to it of some kinds: the greatest length of a path to it, and the node before it
pub record IsLongest (r : PlanRanking) (Into : Node → Node → ℕ → Type 0) (v : Node) (longest : Longest) : Type 0 where
  pub ranked : (u : Node) (d : ℕ) → Into u v d → IsRanked r.times u
  pub fits : (u : Node) (d : ℕ) → Into u v d → IsAheadOf r.bounds u → earliest_of r.times u + d ≤ longest.length
  pub bound : (n : ℕ) → bound_of r.bounds v ≡ Some n → n ≤ longest.length
  pub attained : IsAttainedFrom r.plan r.bounds r.times v longest.length longest.before
  pub bounded : longest.length ≤ MAX_BOUND + MAX_NOMINAL * length r.done

-- the path that begins with v, at its bound
pub record IsFromBound (r : PlanRanking) (v : Node) (longest : Longest) : Type 0 where
  pub recorded : bound_of r.bounds v ≡ Some longest.length
  pub limited : longest.length ≤ MAX_BOUND
  pub before : longest.before ≡ None

-- what one arc allows
pub record IsOver (r : PlanRanking) (source : ArcIn) (longest : Longest) : Type 0 where
  pub ranked : IsRanked r.times source.node
  pub bounded : longest.length ≤ MAX_BOUND + MAX_NOMINAL * length r.done
  pub length : longest.length ≡ earliest_of r.times source.node + source.length
  pub before : longest.before ≡ Some source.node

-- what a path allows, and besides it one arc, where that comes from a node ahead
pub record IsWith (r : PlanRanking) (base : Longest) (source : ArcIn) (longest : Longest) : Type 0 where
  pub ranked : IsRanked r.times source.node
  pub longer : base.length ≤ longest.length
  pub fits : IsAheadOf r.bounds source.node → earliest_of r.times source.node + source.length ≤ longest.length
  pub is : (longest ≡ base) ⊎ ((IsAheadOf r.bounds source.node) × IsOver r source longest)

-- a ranked node comes after the nodes before it, and has the greatest moment that they allow
pub record IsPlaced (p : PlannedShop) (b : NodeBounds) (t : NodeTimes) (v : Node) : Type 0 where
  pub rises : (u : Node) (d : ℕ) → Arc p u v d → rank_of t u < rank_of t v
  pub fits : (u : Node) (d : ℕ) → Arc p u v d → IsAheadOf b u → earliest_of t u + d ≤ earliest_of t v
  pub bound : (n : ℕ) → bound_of b v ≡ Some n → n ≤ earliest_of t v
  pub attained : IsAttainedFrom p b t v (earliest_of t v) (before_of t v)
  pub bounded : earliest_of t v ≤ MAX_BOUND + MAX_NOMINAL * rank_of t v

-- the ranked nodes are those done, and their ranks the places there
pub record AreRanked (r : PlanRanking) : Type 0 where
  pub few : length r.done < UNRANKED
  pub listed : (i : ℕ) → i < length r.done → IsNode r.plan (node_at r.done i)
  pub ranks : (i : ℕ) → i < length r.done → rank_of r.times (node_at r.done i) ≡ i
  pub within : (v : Node) → IsNode r.plan v → IsRanked r.times v → rank_of r.times v < length r.done
  pub places : (v : Node) → IsNode r.plan v → IsRanked r.times v → node_at r.done (rank_of r.times v) ≡ v
  pub placed : (v : Node) → IsNode r.plan v → IsRanked r.times v → IsPlaced r.plan r.bounds r.times v

-- the ranking of a graph with these bounds, these nodes done and these rows
abbrev pub ranking_of : PlanGraph → NodeBounds → List Node → List NodeTime → PlanRanking
ranking_of graph b done rows = record { plan = graph.plan; bounds = b; done = done; times = by_job graph.firsts rows }

-- 1 for the row of a node without a rank
abbrev pub blank : NodeTime → ℕ
blank row = if row.rank == UNRANKED then 1 else 0

-- the bounds are of the graph's plan q and rooted, and the nodes done and the rows rank nodes of the graph; each node has a row, and there is room for all of them among those done
pub record IsRanking (graph : PlanGraph) (q : PlannedShop) (b : NodeBounds) (done : List Node) (rows : List NodeTime) (room : ℕ) : Type 0 where
  pub sound : IsSoundGraph graph
  pub planned : q ≡ graph.plan
  pub rooted : AreRooted graph.plan b
  pub ranked : AreRanked (ranking_of graph b done rows)
  pub count : length done + sum_by blank rows ≡ length rows
  pub size : length rows ≡ slice_index graph.firsts (jobs graph.plan)
  pub fits : length rows ≤ room

-- a ranking has become another: nodes without a rank may have got one behind those done, and nothing else has changed
pub record Grows (old new : PlanRanking) : Type 0 where
  pub plan : new.plan ≡ old.plan
  pub bounds : new.bounds ≡ old.bounds
  pub longer : length old.done ≤ length new.done
  pub known : (v : Node) → IsNode old.plan v → (time_at new.times v ≡ time_at old.times v) ⊎ ((rank_of old.times v ≡ UNRANKED) × (length old.done ≤ rank_of new.times v))

-- the node has a rank, or waits for one that has none below n
abbrev pub IsSettled : PlanRanking → ℕ → Node → Type 0
IsSettled r n v = IsRanked r.times v ⊎ WaitsFor r n v

-- all nodes do
abbrev pub AreSettled : PlanRanking → ℕ → Type 0
AreSettled r n = (v : Node) → IsNode r.plan v → IsSettled r n v
