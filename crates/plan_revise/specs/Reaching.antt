-- The nodes to which arcs lead from one, found one after another.
use Rattle.std.specs.Prelude.{◌≡◌, ℕ, ◌+◌, ◌<◌, ◌≤◌, ◌↔◌, List, length, slice_index, slice_index_or, sum_by, Bool, true, false, cond}
use Rattle.shop_base.specs.declared.node.Node.{Node}
use Rattle.shop_base.specs.Plan.{PlannedShop, jobs, order, Stands}
use Rattle.shop_base.specs.Graph.{node, IsNode, HasArc}
use Rattle.alt_graph.specs.Layout.{number_of}
use Rattle.alt_graph.specs.Places.{node_at}
use Rattle.alt_graph.specs.PlanGraph.{PlanGraph, IsSoundGraph}
use Rattle.plan_revise.specs.declared.reaching.Found.{Found}

-- node v is u, or arcs lead to it from u
pub data Reaches (p : PlannedShop) (u : Node) : Node → Type 0 where
  is_itself : Reaches p u u
  goes_on : (v w : Node) → Reaches p u v → HasArc p v w → Reaches p u w

-- the number of the node is marked
abbrev pub IsMarked : PlanGraph → List Bool → Node → Type 0
IsMarked g marks v = slice_index_or marks (number_of g.firsts v) false ≡ true

-- how many numbers aren't marked
abbrev pub unmarked : List Bool → ℕ
unmarked marks = sum_by (λ marked. cond marked 0 1) marks

-- the nodes that are marked are in the list, each once, and arcs lead to them
pub record AreFound (g : PlanGraph) (found : Found) : Type 0 where
  pub size : length found.marks.items ≡ slice_index g.firsts (jobs g.plan)
  pub count : length found.nodes.items + unmarked found.marks.items ≡ length found.marks.items
  pub nodes_in : (i : ℕ) → i < length found.nodes.items → IsNode g.plan (node_at found.nodes.items i)
  pub reached : (i : ℕ) → i < length found.nodes.items → Reaches g.plan found.origin (node_at found.nodes.items i)
  pub listed : (v : Node) → IsNode g.plan v → IsMarked g found.marks.items v → (i : ℕ) × (i < length found.nodes.items) × (node_at found.nodes.items i ≡ v)

-- where the arcs out of the first n of them lead is marked
abbrev pub AreFollowed : PlanGraph → ℕ → Found → Type 0
AreFollowed g n found = (i : ℕ) (w : Node) → i < n → HasArc g.plan (node_at found.nodes.items i) w → IsMarked g found.marks.items w

-- the nodes that were found before stay, at their places
pub record HasFoundMore (g : PlanGraph) (old new : Found) : Type 0 where
  pub origin : new.origin ≡ old.origin
  pub size : length old.nodes.items ≤ length new.nodes.items
  pub nodes : (i : ℕ) → i < length old.nodes.items → node_at new.nodes.items i ≡ node_at old.nodes.items i
  pub marks : (v : Node) → IsMarked g old.marks.items v → IsMarked g new.marks.items v

-- the graph is a plan's, and exactly the nodes are marked to which arcs lead from node u
pub record AreReached (g : PlanGraph) (u : Node) (found : Found) : Type 0 where
  pub sound : IsSoundGraph g
  pub origin : found.origin ≡ u
  pub size : length found.marks.items ≡ slice_index g.firsts (jobs g.plan)
  pub exact : (v : Node) → IsNode g.plan v → IsMarked g found.marks.items v ↔ Reaches g.plan u v

-- arcs lead from node u to the leaving of machine m by the job that stands at place a of its order
abbrev pub ReachesLeaving : PlannedShop → Node → ℕ → ℕ → Type 0
ReachesLeaving p u m a = (i k : ℕ) × Stands p m a i k × Reaches p u (node i (k + 1))

-- from this first place on, the first place of machine m's order whose job's leaving of the machine is reached from node u, else the order's end
pub record IsFirstReached (p : PlannedShop) (u : Node) (m first a : ℕ) : Type 0 where
  pub after : first ≤ a
  pub within : a ≤ length (order p m)
  pub there : a < length (order p m) → ReachesLeaving p u m a
  pub before : (b : ℕ) → first ≤ b → b < a → ReachesLeaving p u m b → ⊥
