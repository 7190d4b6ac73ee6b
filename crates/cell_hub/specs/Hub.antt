-- What a hub holds.
use Rattle.std.specs.Prelude.{◌≡◌, ◌≢◌, ℕ, ◌<◌, List, [], ◌∷◌, Option, None, Some, Bool, ◌&&◌, eqb, if◌then◌else◌}
use Rattle.cell_control.specs.Control.{Control}
use Rattle.cell_hub.specs.declared.slots.Ticket.{Ticket}

-- for each ticket that has a cell the content of its controller, and the serial of the next ticket
pub record HubState : Type 0 where
  pub held : List (Ticket × Control)
  pub next_serial : ℕ

-- a hub without cells, whose first ticket has this serial
abbrev pub hub_from : ℕ → HubState
hub_from first = record { held = []; next_serial = first }

abbrev pub is_ticket : Ticket → Ticket → Bool
is_ticket one other = eqb one.slot other.slot && eqb one.serial other.serial

-- the content that stands under a ticket, if one does
abbrev pub find : Ticket → List (Ticket × Control) → Option Control
find t [] = None
find t (pair ∷ rest) = if is_ticket t pair.0 then Some pair.1 else find t rest

-- the content of the cell of a ticket, if it has one
abbrev pub cell_at : HubState → Ticket → Option Control
cell_at h t = find t h.held

-- a ticket's cell has now this content, or none, and the cell of each other ticket what it had
pub record Puts (old new : HubState) (t : Ticket) (content : Option Control) : Type 0 where
  pub changed : cell_at new t ≡ content
  pub others : (other : Ticket) → other ≢ t → cell_at new other ≡ cell_at old other

-- each ticket that has a cell has a serial below the next one
abbrev pub AreSerialsBelow : HubState → Type 0
AreSerialsBelow h = (t : Ticket) (c : Control) → cell_at h t ≡ Some c → t.serial < h.next_serial
