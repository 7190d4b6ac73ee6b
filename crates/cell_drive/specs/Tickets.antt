-- The cells that a hub has under tickets, in the order of their numbers. No public clause cites this module.
use Rattle.std.specs.Prelude.{◌≡◌, ℕ, suc, List, [], ◌∷◌, Option, None, Some}
use Rattle.shop_base.specs.declared.report.Report.{Report}
use Rattle.cell_control.specs.{declared.ack.Ack.Ack, Control.Control, Control.IsControl}
use Rattle.cell_hub.specs.{declared.slots.Ticket.Ticket, Hub.HubState, Hub.cell_at, Hub.Puts, Calls.IsReported}
use Rattle.event_lines.specs.declared.requests.Request.{Request}
use Rattle.cell_drive.specs.{declared.protocol.Protocol.Protocol, ManyCells.HubCell, Replies.HasAccepted, Replies.RepliesBy}
use Rattle.cell_drive.specs.Numbers.{AnsweredByCells, AreInRun, planned_cells}

-- the ticket has a cell
abbrev pub HasCell : HubState → Ticket → Type 0
HasCell h t = (v : Control) × (cell_at h t ≡ Some v)

-- the content of a cell, where there is one, and these
abbrev pub with_content : Option Control → List Control → List Control
with_content None others = others
with_content (Some v) others = v ∷ others

-- the contents of the cells of these tickets, in order
abbrev pub contents : HubState → List Ticket → List Control
contents h [] = []
contents h (t ∷ ts) = with_content (cell_at h t) (contents h ts)

abbrev pub cells_of : HubState → List Ticket → List HubCell
cells_of h ts = planned_cells (contents h ts)

-- each of these tickets, whose serials count up from a number, has a cell
abbrev pub AreSeated : HubState → ℕ → List Ticket → Type 0
AreSeated h n [] = Unit {0}
AreSeated h n (t ∷ ts) = HasCell h t × (t.serial ≡ n) × AreSeated h (suc n) ts

-- so it is from serial 0 on, and each is as it can be in a run
pub record AreSeatedInRun (h : HubState) (ts : List Ticket) : Type 0 where
  pub seated : AreSeated h 0 ts
  pub in_run : AreInRun (cells_of h ts)

-- the ticket's cell takes the report
abbrev pub Takes : HubState → Ticket → Report → HubState → Type 0
Takes old t r new = (ack : Ack) × IsReported old t r ack new

-- the ticket's cell answers the request by this text, with this before each line, and the others stay as they are
pub record RepliesAt (protocol : Protocol) (prefix : List ℕ) (old : HubState) (t : Ticket) (number : ℕ) (request : Request) (new : HubState) (text : List ℕ) : Type 0 where
  pub before : Control
  pub after : Control
  pub accepted : Option Report
  pub cell : cell_at old t ≡ Some before
  pub changed : HasAccepted before accepted after
  pub control : IsControl after
  pub cells : Puts old new t (Some after)
  pub reply : RepliesBy protocol prefix before number request accepted after text

-- the texts that answer a line of this number that isn't too long, by this hub before and after it
abbrev pub AnsweredByHub : Protocol → HubState → List Ticket → ℕ → List ℕ → HubState → List ℕ → Type 0
AnsweredByHub protocol old ts number line new text = AnsweredByCells protocol (contents old ts) number line (contents new ts) text
