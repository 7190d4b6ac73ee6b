use Rattle.std.proofs.Common.{List, subst}
use Rattle.byte_streams.specs.Lent.{WroteTo, WroteOneTo}
use Rattle.cell_hub.specs.declared.slots.Ticket.{Ticket}
use Rattle.cell_drive.specs.{ProtocolCells.{HubOfCells, HubCloses}, Numbers.closing_text, Tickets.cells_of}
use Rattle.cell_drive.proofs.Closing.{closing_is}
use Rattle.cell_drive.proofs.hub.HubSessionLineHandler.put_closing.Goals as goal

pub returns : goal.returns
returns g c =
    let s = c.self.inside in
    let cells = cells_of s.hub s.tickets.items in
    subst (λ (s : HubOfCells). WroteOneTo g.W.Sink c.put_closings.result c.args.writer.now c.put_closings.new.writer (HubCloses s)) c.self.view_is
    (record {
      text = closing_text 0 cells;
      is_text = closing_is cells 0 c.self.invariant.in_run;
      wrote = subst (λ (ts : List Ticket). WroteTo g.W.Sink c.put_closings.result c.args.writer.now c.put_closings.new.writer (closing_text 0 (cells_of s.hub ts))) c.deref.ensures.value c.put_closings.ensures.wrote;
      unfailed = c.put_closings.ensures.unfailed;
    })
