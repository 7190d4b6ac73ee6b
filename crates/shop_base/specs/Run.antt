-- A run: reports and moves that can happen one after another, from the start; and cells at rest or stuck.
use Rattle.std.specs.Prelude.{ℕ, ◌<◌, List, [], ◌∷◌}
use Rattle.shop_base.specs.declared.report.Report.{Report}
use Rattle.shop_base.specs.Plan.{PlannedShop, jobs}
use Rattle.shop_base.specs.Cell.{Cell, start, IsGone}
use Rattle.shop_base.specs.Activity.{IsIdle}
use Rattle.shop_base.specs.Report.{CanReport, after_report}
use Rattle.shop_base.specs.Move.{CanMove, KeepsPlan, CanObey, after_move}
use Rattle.shop_base.specs.declared.move_order.MoveOrder.{MoveOrder}

-- what happens in a run: a report, or a move that was ordered
pub data Event : Type 0 where
  Reported : (report : Report) → Event
  Moved : (move_order : MoveOrder) → Event

module _ (p : PlannedShop) where
  -- the event is a possible report, or a possible move that keeps the plan
  abbrev pub CanHappen : Cell → Event → Type 0
  CanHappen c (Reported r) = CanReport p c r
  CanHappen c (Moved o) = CanObey p c o × KeepsPlan p c o.job

  -- the cell after an event
  abbrev pub after : Cell → Event → Cell
  after c (Reported r) = after_report c r
  after c (Moved o) = after_move p c o.job o.at

  -- each event can happen in the cell that those before it leave
  abbrev pub AreEvents : Cell → List Event → Type 0
  AreEvents c [] = Unit {0}
  AreEvents c (e ∷ es) = CanHappen c e × AreEvents (after c e) es

  -- the cell after all these events
  abbrev pub after_all : Cell → List Event → Cell
  after_all c [] = c
  after_all c (e ∷ es) = after_all (after c e) es

  -- a run: events from the start
  abbrev pub IsRun : List Event → Type 0
  IsRun es = AreEvents (start p) es

  -- the cell at its end
  abbrev pub ends_in : List Event → Cell
  ends_in es = after_all (start p) es

  -- at rest: no possible move keeps the plan
  abbrev pub IsAtRest : Cell → Type 0
  IsAtRest c = (j t : ℕ) → CanMove p c j t → KeepsPlan p c j → ⊥

  -- stuck: at rest, nothing goes on, and some job isn't gone
  pub record IsStuck (c : Cell) : Type 0 where
    pub at_rest : IsAtRest c
    pub idle : IsIdle p c
    pub unfinished : (j : ℕ) × (j < jobs p) × (IsGone p c j → ⊥)
