-- Reports within the moments kept for what they hold up, and moves by the moments kept for them.
use Rattle.std.specs.Prelude.{ℕ, ◌<◌, ◌≤◌, List, [], ◌∷◌}
use Rattle.shop_base.specs.declared.node.Node.{Node}
use Rattle.shop_base.specs.declared.report.Report.{Report}
use Rattle.shop_base.specs.Plan.{PlannedShop, jobs, steps}
use Rattle.shop_base.specs.Cell.{Cell, made}
use Rattle.shop_base.specs.Activity.{Activity, GoesOn}
use Rattle.shop_base.specs.Report.{ended, at}
use Rattle.shop_base.specs.Run.{Event, Reported, Moved, after}
use Rattle.shop_base.specs.Punctual.{EachReport}
use Rattle.shop_base.specs.Graph.{Arc, leaving}
use Rattle.shop_base.specs.Ahead.{next_node, IsAhead, HoldsUp}

module _ (p : PlannedShop) (kept : Node → ℕ) where
  -- the report comes at or before the moment kept for each node that an activity going on holds up, its own included
  abbrev pub IsWithin : Cell → Report → Type 0
  IsWithin c r = (a : Activity) (due : ℕ) (v : Node) → GoesOn p c a due → HoldsUp p c a v → at r ≤ kept v

  -- each report among the events does
  abbrev pub AreWithin : Cell → List Event → Type 0
  AreWithin = EachReport p IsWithin

  -- the report comes at or before the moment kept for each node that its own activity holds up
  abbrev pub IsByItsOwn : Cell → Report → Type 0
  IsByItsOwn c r = (v : Node) → HoldsUp p c (ended r) v → at r ≤ kept v

  -- each report among the events does
  abbrev pub AreByTheirOwn : Cell → List Event → Type 0
  AreByTheirOwn = EachReport p IsByItsOwn

  -- each move among the events is made at or before the moment kept for its node
  abbrev pub AreMadeBy : Cell → List Event → Type 0
  AreMadeBy c [] = Unit {0}
  AreMadeBy c (Reported r ∷ es) = AreMadeBy (after p c (Reported r)) es
  AreMadeBy c (Moved o ∷ es) = (o.at ≤ kept (next_node c o.job)) × AreMadeBy (after p c (Moved o)) es

-- no node ahead is kept to a moment before that of a node that leads to it
abbrev pub RiseAhead : PlannedShop → Cell → (Node → ℕ) → Type 0
RiseAhead p c kept = (u v : Node) (d : ℕ) → IsAhead c u → Arc p u v d → kept u ≤ kept v

-- moments that can be kept from the present moment t on: they rise ahead, and no job that isn't gone is kept to leave before t
pub record CanBeKept (p : PlannedShop) (c : Cell) (t : ℕ) (kept : Node → ℕ) : Type 0 where
  pub present : (j : ℕ) → j < jobs p → made c j ≤ steps p j → t ≤ kept (leaving p j)
  pub rise : RiseAhead p c kept
