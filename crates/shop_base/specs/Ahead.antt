-- The rest of a run, from a cell and a present moment: the nodes ahead, moments that fit them, paths ahead, and the controlled run that goes on.
use Rattle.std.specs.Prelude.{◌≡◌, ℕ, ◌+◌, ◌<◌, ◌≤◌, List, [], ◌∷◌, ◌++◌, length}
use Rattle.shop_base.specs.declared.node.Node.{Node}
use Rattle.shop_base.specs.declared.report.Report.{Report}
use Rattle.shop_base.specs.Plan.{PlannedShop, jobs, steps, budget, Stands, IsWellShaped}
use Rattle.shop_base.specs.Cell.{Cell, made, since, entries, IsGone}
use Rattle.shop_base.specs.Activity.{Activity, Arrival, Operation, Cleaning, GoesOn}
use Rattle.shop_base.specs.Run.{Event, Reported, Moved, IsAtRest}
use Rattle.shop_base.specs.Controlled.{AreMoves, after_moves, orders_for, moved, Leads}
use Rattle.shop_base.specs.Graph.{Arc, IsNode, node, leaving, RanksRise}

-- the next node of job j
abbrev pub next_node : Cell → ℕ → Node
next_node c j = node j (made c j)

-- the node is ahead: its move isn't made yet
abbrev pub IsAhead : Cell → Node → Type 0
IsAhead c v = made c v.job ≤ v.place

module _ (p : PlannedShop) (c : Cell) where
  -- the activity holds up the node: an arrival or an operation the next of its job, a cleaning that by which the next job in the order enters the machine
  abbrev pub HoldsUp : Activity → Node → Type 0
  HoldsUp (Arrival j) v = v ≡ next_node c j
  HoldsUp (Operation j m) v = v ≡ next_node c j
  HoldsUp (Cleaning m) v = Stands p m (length (entries c m)) v.job v.place

  -- the moments respect the length of each arc from a node ahead (it leads to one ahead)
  abbrev pub RespectArcs : (Node → ℕ) → Type 0
  RespectArcs kept = (u v : Node) (d : ℕ) → IsAhead c u → Arc p u v d → kept u + d ≤ kept v

  -- each leaving ahead is within its budget; jobs that are gone aren't judged by theirs
  abbrev pub MeetBudgetsAhead : (Node → ℕ) → Type 0
  MeetBudgetsAhead kept = (j : ℕ) → j < jobs p → (IsGone p c j → ⊥) → kept (leaving p j) ≤ budget p j

module _ (p : PlannedShop) (c : Cell) (t : ℕ) where
  -- the moments fit what is ahead of the cell from the present moment t on
  pub record MomentsFitAhead (kept : Node → ℕ) : Type 0 where
    -- a job that is gone left at most at the moment kept for it
    pub left : (j : ℕ) → j < jobs p → IsGone p c j → since c j ≤ kept (leaving p j)
    -- no job makes its next move before the present moment
    pub present : (j : ℕ) → j < jobs p → made c j ≤ steps p j → t ≤ kept (next_node c j)
    -- nor before what holds it up is due
    pub activities : (a : Activity) (due : ℕ) (v : Node) → GoesOn p c a due → HoldsUp p c a v → due ≤ kept v
    pub arcs : RespectArcs p c kept

  -- a path ahead to a node, with its length: it begins with a node ahead, at the present moment, or with one that is held up, when what holds it up is due, and follows arcs
  pub data PathAhead : List Node → Node → ℕ → Type 0 where
    now : (v : Node) → IsNode p v → IsAhead c v → PathAhead (v ∷ []) v t
    held : (a : Activity) (due : ℕ) (v : Node) → GoesOn p c a due → HoldsUp p c a v → PathAhead (v ∷ []) v due
    onward : (nodes : List Node) (u v : Node) (n d : ℕ) → PathAhead nodes u n → Arc p u v d → PathAhead (nodes ++ v ∷ []) v (n + d)

  -- a schedule of what is ahead: ranks that rise along every arc, and moments that fit
  pub record IsScheduleAhead (rank kept : Node → ℕ) : Type 0 where
    pub shaped : IsWellShaped p
    pub ranks : RanksRise p rank
    pub moments : MomentsFitAhead kept

  -- these jobs' moves at moment t, which keep the plan, bring the cell to rest
  pub record Settles (js : List ℕ) : Type 0 where
    pub moves : AreMoves p c t js
    pub quiescent : IsAtRest p (after_moves p c t js)

  -- the controlled run goes on from the cell at moment t: the cell settles, and then reports lead to events and another cell
  pub data GoesOnTo : List Report → List Event → Cell → Type 0 where
    settled : (js : List ℕ) (rs : List Report) (es : List Event) (end : Cell)
        → Settles js → Leads p (after_moves p c t js) rs es end → GoesOnTo rs (moved (orders_for p c t js) ++ es) end

-- none of the moves among the events is before moment t
abbrev pub MoveFrom : ℕ → List Event → Type 0
MoveFrom t [] = Unit {0}
MoveFrom t (Reported r ∷ es) = MoveFrom t es
MoveFrom t (Moved o ∷ es) = (t ≤ o.at) × MoveFrom t es
