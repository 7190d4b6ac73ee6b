-- What the cell of a number in a hub replies is the answer of cells in the order of their numbers.
use Rattle.std.proofs.Common.{◌≡◌, ℕ, ◌<◌, List, length, set, get_or, Some, sym, subst}
use Rattle.std.specs.Prelude.{slice_get}
use Rattle.cell_control.specs.Control.{Control}
use Rattle.cell_hub.specs.{declared.slots.Ticket.Ticket, Hub.HubState}
use Rattle.event_lines.specs.{SentLines.cell_prefix, declared.requests.Request.Request}
use Rattle.cell_drive.specs.{declared.protocol.Protocol.Protocol, ProtocolCells.CellsReply, Replies.RepliesBy}
use Rattle.cell_drive.specs.Numbers.{planned_cell, planned_cells}
use Rattle.cell_drive.specs.Tickets.{AreSeatedInRun, RepliesAt, cells_of, contents}
use Rattle.cell_drive.proofs.{Hubs.{reply_answers, still_in_run}, SeatedCells.{AreNow, found_there, put_there}}

module _ (protocol : Protocol) (old new : HubState) (ts : List Ticket) (k number : ℕ) (request : Request) (text prefix : List ℕ) (seated : AreSeatedInRun old ts) (below : k < length ts)
    (prefix_is : prefix ≡ cell_prefix k) (d : Ticket) (reply : RepliesAt protocol prefix old (get_or ts k d) number request new text) where
  now : AreNow new 0 ts (set (contents old ts) k reply.after)
  now = put_there old new 0 ts k d reply.after seated.seated below reply.cells

  found : slice_get (cells_of old ts) k ≡ Some (planned_cell reply.before)
  found = found_there old ts k d reply.before seated.seated below reply.cell

  pub replied_at : CellsReply protocol (cells_of old ts) number (record { cell = k; request = request }) text (cells_of new ts)
  replied_at =
      subst (λ (cs : List Control). CellsReply protocol (cells_of old ts) number (record { cell = k; request = request }) text (planned_cells cs)) (sym now.contents_are)
      (reply_answers protocol (contents old ts) number k reply.before reply.after request reply.accepted text found reply.changed
      (subst (λ (p : List ℕ). RepliesBy protocol p reply.before number request reply.accepted reply.after text) prefix_is reply.reply))

  pub seated_at : AreSeatedInRun new ts
  seated_at = record { seated = now.seated; in_run = still_in_run protocol (contents old ts) (contents new ts) number k request text seated.in_run replied_at }
