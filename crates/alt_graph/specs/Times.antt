-- Ranks and greatest lengths: what is known of each node, and when it is what a plan's graph has.
use Rattle.std.specs.Prelude.{◌≡◌, ℕ, ◌+◌, ◌<◌, ◌≤◌, ◌↔◌, List, [], length, slice_index_or, Option, None, Some}
use Rattle.shop_base.specs.declared.node.Node.{Node}
use Rattle.shop_base.specs.Plan.{PlannedShop, release, IsWellShaped}
use Rattle.shop_base.specs.Graph.{Arc, IsNode, Path, IsSchedule, RanksRise}
use Rattle.alt_graph.specs.Evidence.{node_count}
use Rattle.alt_graph.specs.Bounds.{NodeBounds, IsAheadOf, bound_of, PathFrom, MomentsFitFrom}
use Rattle.alt_graph.specs.declared.times.NodeTime.{NodeTime}
use Rattle.alt_graph.specs.declared.times.TheConstants.{UNRANKED}

-- what is known of the nodes of a shop: for each job, what is known of its places
abbrev pub NodeTimes : Type 0
NodeTimes = List (List NodeTime)

-- the row of no node
abbrev pub no_time : NodeTime
no_time = record { rank = UNRANKED; earliest = 0; before = None }

-- what is known of job j's places
abbrev pub job_times : NodeTimes → ℕ → List NodeTime
job_times t j = slice_index_or t j []

-- what is known of a node
abbrev pub time_at : NodeTimes → Node → NodeTime
time_at t v = slice_index_or (job_times t v.job) v.place no_time

-- the rank of a node
abbrev pub rank_of : NodeTimes → Node → ℕ
rank_of t v = (time_at t v).rank

-- the greatest length of a path to a node
abbrev pub earliest_of : NodeTimes → Node → ℕ
earliest_of t v = (time_at t v).earliest

-- the node before it on such a path, if there is one
abbrev pub before_of : NodeTimes → Node → Option Node
before_of t v = (time_at t v).before

-- the node is one of those that are known
pub record IsTimed (t : NodeTimes) (v : Node) : Type 0 where
  pub job : v.job < length t
  pub place : v.place < length (job_times t v.job)

-- the nodes of the shop are known: their ranks, each its own and below the number of nodes, rise along every arc
pub record AreRanks (p : PlannedShop) (t : NodeTimes) : Type 0 where
  pub shaped : IsWellShaped p
  pub nodes : (v : Node) → IsNode p v ↔ IsTimed t v
  pub rise : RanksRise p (rank_of t)
  pub few : (v : Node) → IsNode p v → rank_of t v < node_count p
  pub apart : (u v : Node) → IsNode p u → IsNode p v → rank_of t u ≡ rank_of t v → u ≡ v

-- n is the moment that an arc allows v, over the node before it; where there is none, v is its job's first place, and n the job's release
abbrev pub IsAttained : PlannedShop → NodeTimes → Node → ℕ → Option Node → Type 0
IsAttained p t v n None = (v.place ≡ 0) × (n ≡ release p v.job)
IsAttained p t v n (Some u) = (d : ℕ) × Arc p u v d × (earliest_of t u + d ≡ n)

-- the nodes of the shop are known: their ranks, each its own and below the number of nodes, and their moments are a schedule, and each moment is attained
pub record AreTimes (p : PlannedShop) (t : NodeTimes) : Type 0 where
  pub nodes : (v : Node) → IsNode p v ↔ IsTimed t v
  pub schedule : IsSchedule p (rank_of t) (earliest_of t)
  pub few : (v : Node) → IsNode p v → rank_of t v < node_count p
  pub apart : (u v : Node) → IsNode p u → IsNode p v → rank_of t u ≡ rank_of t v → u ≡ v
  pub attained : (v : Node) → IsNode p v → IsAttained p t v (earliest_of t v) (before_of t v)

-- the nodes are a path to v, as long as the moment of v
abbrev pub IsPathInTime : PlannedShop → NodeTimes → Node → List Node → Type 0
IsPathInTime p t v nodes = Path p nodes v (earliest_of t v)

-- they are so in the shop of these times
abbrev pub IsPathBy : NodeTimes → Node → List Node → Type 0
IsPathBy t v nodes = (p : PlannedShop) → AreTimes p t → IsPathInTime p t v nodes

-- the moment of each node is the length of a path to it, and no path to it is longer
pub record AreGreatest (p : PlannedShop) (t : NodeTimes) : Type 0 where
  pub reached : (v : Node) → IsNode p v → (nodes : List Node) × Path p nodes v (earliest_of t v)
  pub greatest : (nodes : List Node) (v : Node) (n : ℕ) → Path p nodes v n → n ≤ earliest_of t v

-- a schedule whose moments are the greatest lengths of the paths to each node
pub record AreOrdered (p : PlannedShop) (t : NodeTimes) : Type 0 where
  pub times : AreTimes p t
  pub lengths : AreGreatest p t

-- ---- the same from any bounds

-- n is the moment that an arc from a node ahead allows v, over that node; where there is none, n is v's bound
abbrev pub IsAttainedFrom : PlannedShop → NodeBounds → NodeTimes → Node → ℕ → Option Node → Type 0
IsAttainedFrom p b t v n None = bound_of b v ≡ Some n
IsAttainedFrom p b t v n (Some u) = (d : ℕ) × Arc p u v d × (earliest_of t u + d ≡ n) × (IsAheadOf b u)

-- the nodes have ranks, and their moments fit the bounds, and each moment is attained
pub record AreTimesFrom (p : PlannedShop) (b : NodeBounds) (t : NodeTimes) : Type 0 where
  pub ranks : AreRanks p t
  pub moments : MomentsFitFrom p b (earliest_of t)
  pub attained : (v : Node) → IsNode p v → IsAttainedFrom p b t v (earliest_of t v) (before_of t v)

-- the nodes are a path from a bound to v, as long as the moment of v, by whatever shop and bounds these times have
abbrev pub IsPathFromBy : NodeTimes → Node → List Node → Type 0
IsPathFromBy t v nodes = (p : PlannedShop) (b : NodeBounds) → AreTimesFrom p b t → PathFrom p b nodes v (earliest_of t v)

-- the moment of each node is the length of a path from a bound to it, and no such path to it is longer
pub record AreGreatestFrom (p : PlannedShop) (b : NodeBounds) (t : NodeTimes) : Type 0 where
  pub reached : (v : Node) → IsNode p v → (nodes : List Node) × PathFrom p b nodes v (earliest_of t v)
  pub greatest : (nodes : List Node) (v : Node) (n : ℕ) → PathFrom p b nodes v n → n ≤ earliest_of t v

-- ranks, and the greatest lengths of the paths from the bounds to each node
pub record AreOrderedFrom (p : PlannedShop) (b : NodeBounds) (t : NodeTimes) : Type 0 where
  pub times : AreTimesFrom p b t
  pub lengths : AreGreatestFrom p b t
