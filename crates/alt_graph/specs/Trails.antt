-- Trails: nodes followed backwards along arcs until one comes again, and the cycle at the end of a trail.
use Rattle.std.specs.Prelude.{◌≡◌, ◌≢◌, ℕ, ◌+◌, ◌-◌, ◌<◌, ◌≤◌, ◌⊎◌, List, length, sum_by, ◌==◌, if◌then◌else◌, slice_index, Option, MatchOption, Some}
use Rattle.std.specs.Option.{ForSome}
use Rattle.shop_base.specs.declared.node.Node.{Node}
use Rattle.shop_base.specs.Plan.{PlannedShop}
use Rattle.shop_base.specs.Graph.{IsNode, HasArc}
use Rattle.alt_graph.specs.declared.times.TheConstants.{UNRANKED}
use Rattle.alt_graph.specs.declared.sources.ArcIn.{ArcIn}
use Rattle.alt_graph.specs.declared.cycles.Trail.{Trail}
use Rattle.alt_graph.specs.declared.times.NodeTime.{NodeTime}
use Rattle.alt_graph.specs.Evidence.{IsNodeBefore}
use Rattle.alt_graph.specs.Times.{rank_of}
use Rattle.alt_graph.specs.Layout.{by_job, number_of}
use Rattle.alt_graph.specs.Ranking.{PlanRanking, IsRanked, IsUnranked}
use Rattle.alt_graph.specs.Places.{node_at}

-- the node at a place of a trail
abbrev pub trail_at : Trail → ℕ → Node
trail_at trail i = node_at trail.nodes.items i

-- how many nodes were followed
abbrev pub trail_length : Trail → ℕ
trail_length trail = length trail.nodes.items

-- distinct nodes, each with an arc to the one before it, and an arc from one of them to the last
pub record IsTrail (p : PlannedShop) (trail : Trail) : Type 0 where
  pub start : trail.start < trail_length trail
  pub back : (i : ℕ) → i + 1 < trail_length trail → HasArc p (trail_at trail (i + 1)) (trail_at trail i)
  pub closes : (i : ℕ) → i + 1 ≡ trail_length trail → HasArc p (trail_at trail trail.start) (trail_at trail i)
  pub apart : (i j : ℕ) → i < j → j < trail_length trail → trail_at trail i ≢ trail_at trail j

-- the place that many arcs after a place of the cycle at the end of a trail: each arc leads to the place before, and from the cycle's first place to its last
abbrev pub IsPlaceAfter : Trail → ℕ → ℕ → ℕ → Type 0
IsPlaceAfter trail place arcs there =
    ((arcs ≤ place - trail.start) × (there + arcs ≡ place)) ⊎ ((place - trail.start < arcs) × (there + arcs ≡ place + (trail_length trail - trail.start)))

-- no node of the cycle comes before the one at this place
pub record IsLeastPlace (trail : Trail) (place : ℕ) : Type 0 where
  pub after : trail.start ≤ place
  pub within : place < trail_length trail
  pub least : (i : ℕ) → trail.start ≤ i → i < trail_length trail → IsNodeBefore (trail_at trail i) (trail_at trail place) → ⊥

-- the nodes of the cycle, along its arcs, from a place on
pub record AreFrom (trail : Trail) (place : ℕ) (nodes : List Node) : Type 0 where
  pub size : length nodes ≡ trail_length trail - trail.start
  pub there : (i : ℕ) → i < length nodes → (a : ℕ) × IsPlaceAfter trail place i a × (node_at nodes i ≡ trail_at trail a)

-- how many numbers have no place yet
abbrev pub unseen : List ℕ → ℕ
unseen seen = sum_by (λ place. if place == UNRANKED then 1 else 0) seen

-- nodes without a rank, each with an arc to the one before it and the next one with an arc to the last; and for each number the place at which its node stands among them, if it does
pub record IsWalk (p : PlannedShop) (firsts : List ℕ) (rows : List NodeTime) (nodes : List Node) (seen : List ℕ) (next : Node) : Type 0 where
  pub size : length seen ≡ length rows
  pub next_node : IsNode p next
  pub next_free : rank_of (by_job firsts rows) next ≡ UNRANKED
  pub nodes_in : (i : ℕ) → i < length nodes → IsNode p (node_at nodes i)
  pub back : (i : ℕ) → i + 1 < length nodes → HasArc p (node_at nodes (i + 1)) (node_at nodes i)
  pub last : (i : ℕ) → i + 1 ≡ length nodes → HasArc p next (node_at nodes i)
  pub marks : (i : ℕ) → i < length nodes → slice_index seen (number_of firsts (node_at nodes i)) ≡ i
  pub marked_in : (v : Node) → IsNode p v → slice_index seen (number_of firsts v) ≢ UNRANKED → slice_index seen (number_of firsts v) < length nodes
  pub marked : (v : Node) → IsNode p v → slice_index seen (number_of firsts v) ≢ UNRANKED → node_at nodes (slice_index seen (number_of firsts v)) ≡ v
  pub count : length nodes + unseen seen ≡ length seen

-- the source of an arc, if there is one, that has no rank
abbrev pub IsFreeSource : PlanRanking → Option ArcIn → Option Node → Type 0
IsFreeSource r source found = MatchOption found (ForSome source (λ s. IsRanked r.times s.node)) (λ u. (d : ℕ) × (source ≡ Some (record { node = u; length = d })) × IsUnranked r u)
