-- How the cells of a hub stand in its slots.
use Rattle.std.specs.Prelude.{ℕ, map, IfSome}
use Rattle.shop_base.specs.declared.report.Report.{Report}
use Rattle.slab.specs.Slab.{Slab, entries}
use Rattle.cell_control.specs.{declared.ack.Ack.Ack, Control.Control}
use Rattle.cell_hub.specs.{declared.slots.Ticket.Ticket, declared.slots.Placed.Placed, Hub.HubState, Hub.cell_at}
use Rattle.cell_control.specs.Examined.{ExaminedReport}
use Rattle.cell_hub.specs.Calls.{IsReported, IsDismissed, IsPossibleAt}

module _ {P D : Type 0} where
  -- a cell of a slot with its ticket
  abbrev pub under_ticket : ℕ × Placed P D → Ticket × Control
  under_ticket entry = (record { slot = entry.0; serial = entry.1.serial }, entry.1.controller)

  -- what the fields of a hub stand for
  abbrev pub hub_of : Slab (Placed P D) → ℕ → HubState
  hub_of cells next = record { held = map under_ticket (entries cells); next_serial = next }

  -- this holds of the content of the ticket's cell, if it has one
  abbrev pub IfCell : Slab (Placed P D) → Ticket → (Control → Type 0) → Type 0
  IfCell cells t Holds = (next : ℕ) → IfSome (cell_at (hub_of cells next) t) Holds

  -- the controller of the ticket's cell answers the report, and the other cells stay as they are
  abbrev pub IsReportedIn : Slab (Placed P D) → Ticket → Report → Ack → Slab (Placed P D) → Type 0
  IsReportedIn old t r ack new = (next : ℕ) → IsReported (hub_of old next) t r ack (hub_of new next)

  -- the ticket's cell is removed with this content
  abbrev pub IsDismissedFrom : Slab (Placed P D) → Ticket → Control → Slab (Placed P D) → Type 0
  IsDismissedFrom old t content new = (next : ℕ) → IsDismissed (hub_of old next) t content (hub_of new next)

  -- the report was found possible in the ticket's cell
  abbrev pub IsPossibleIn : Slab (Placed P D) → Ticket → ExaminedReport → Type 0
  IsPossibleIn cells t possible = (next : ℕ) → IsPossibleAt (hub_of cells next) t possible
