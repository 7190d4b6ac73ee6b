-- The law that nothing ahead changes without jobs that are over.
use Rattle.std.specs.Prelude.{◌≡◌, ℕ, List, Bool, map, true}
use Rattle.shop_base.specs.declared.node.Node.{Node}
use Rattle.shop_base.specs.Plan.{PlannedShop, budget, IsWellShaped}
use Rattle.shop_base.specs.Cell.{Cell}
use Rattle.shop_base.specs.Activity.{Activity, GoesOn}
use Rattle.shop_base.specs.Run.{Event, IsRun, ends_in}
use Rattle.shop_base.specs.Graph.{Arc, IsNode, node}
use Rattle.shop_base.specs.Ahead.{IsAhead, HoldsUp, PathAhead}
use Rattle.run_pruning.specs.Staying.{stays, new_number}
use Rattle.run_pruning.specs.{Pruned.pruned, Over.DropsWhatIsOver}
use Rattle.run_pruning.specs.PruningLaw.{pruned_run, run_owner}

-- a node by the new number of its job
abbrev pub new_node : List Bool → Node → Node
new_node marks v = node (new_number marks v.job) v.place

-- the node is ahead in the cell, and of the shop
pub record IsNodeAhead (p : PlannedShop) (c : Cell) (v : Node) : Type 0 where
  pub is_node : IsNode p v
  pub ahead : IsAhead c v

-- the node is held up by something that is due at this moment
abbrev pub IsHeldUntil : PlannedShop → Cell → Node → ℕ → Type 0
IsHeldUntil p c v due = (a : Activity) × GoesOn p c a due × HoldsUp p c a v

-- what is ahead of cell d by plan q is what is ahead of cell c by plan p, with each node renamed; it is all of jobs that are kept
pub record IsAheadBy (kept : ℕ → Bool) (rename : Node → Node) (p : PlannedShop) (c : Cell) (q : PlannedShop) (d : Cell) : Type 0 where
  -- each node ahead is that of a job that is kept
  pub nodes : (v : Node) → IsNodeAhead p c v → (kept v.job ≡ true) × IsNodeAhead q d (rename v)
  pub nodes_back : (w : Node) → IsNodeAhead q d w → (v : Node) × (w ≡ rename v) × IsNodeAhead p c v
  -- from it lead the same arcs
  pub arcs : (u v : Node) (n : ℕ) → IsAhead c u → Arc p u v n → Arc q (rename u) (rename v) n
  pub arcs_back : (x y : Node) (n : ℕ) → IsAhead d x → Arc q x y n → (u : Node) × (v : Node) × (x ≡ rename u) × (y ≡ rename v) × IsAhead c u × Arc p u v n
  -- and the same holds it up, due at the same moment
  pub held : (v : Node) (due : ℕ) → IsHeldUntil p c v due → IsHeldUntil q d (rename v) due
  pub held_back : (w : Node) (due : ℕ) → IsHeldUntil q d w due → (v : Node) × (w ≡ rename v) × IsHeldUntil p c v due
  -- its job leaves by the same budget
  pub budgets : (v : Node) → IsNodeAhead p c v → budget q (rename v).job ≡ budget p v.job

-- the same paths are ahead from moment t on, with each node renamed, and are as long
pub record ArePathsBy (rename : Node → Node) (p : PlannedShop) (c : Cell) (q : PlannedShop) (d : Cell) (t : ℕ) : Type 0 where
  pub paths : (nodes : List Node) (v : Node) (n : ℕ) → PathAhead p c t nodes v n → PathAhead q d t (map rename nodes) (rename v) n
  pub paths_back : (others : List Node) (w : Node) (n : ℕ) → PathAhead q d t others w n
      → (nodes : List Node) × (v : Node) × (others ≡ map rename nodes) × (w ≡ rename v) × PathAhead p c t nodes v n

-- both by the new numbers of the jobs that stay
abbrev pub IsAheadRenamed : List Bool → PlannedShop → Cell → PlannedShop → Cell → Type 0
IsAheadRenamed marks = IsAheadBy (stays marks) (new_node marks)

abbrev pub ArePathsRenamed : List Bool → PlannedShop → Cell → PlannedShop → Cell → ℕ → Type 0
ArePathsRenamed marks = ArePathsBy (new_node marks)

-- nothing ahead changes: whatever jobs that are over are dropped, the nodes ahead are the same but for their numbers, with the same arcs, what holds them up is due at the same moments, and from every moment on the same paths lead to them
abbrev pub NothingAheadChanges : Type 0
NothingAheadChanges = (p : PlannedShop) (es : List Event) (marks : List Bool) (t : ℕ) → IsWellShaped p → IsRun p es → DropsWhatIsOver p (ends_in p es) (run_owner p es) marks
    → IsAheadRenamed marks p (ends_in p es) (pruned marks p) (ends_in (pruned marks p) (pruned_run marks p es))
    × ArePathsRenamed marks p (ends_in p es) (pruned marks p) (ends_in (pruned marks p) (pruned_run marks p es)) t
