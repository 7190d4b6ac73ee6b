use Rattle.std.proofs.{Common.{◌≡◌, List, Err, ap, ◌∙◌}, lemmas.Result.err_from_is_err_and}
use Rattle.byte_streams.specs.Lent.{streams_of}
use Rattle.cell_drive.specs.{ManyCells.HubCell, Tickets.cells_of}
use Rattle.cell_drive.specs.ProtocolCells.{HubAnswer, HubCloses, hub_of, hub_of_plans}
use Rattle.cell_drive.proofs.{OneText.undriven_hub, StreamedFrom.{never_memory, on_ok, streamed_from}}
use Rattle.cell_drive.proofs.hub.drive_hub_in.Goals as goal

pub returns-clause-driven : goal.returns-clause-driven
returns-clause-driven g c =
    let first = hub_of c.args.protocol (cells_of c.in_ok-begun.begun.0 c.in_ok-begun.begun.1.items) in
    let begun : first ≡ hub_of_plans c.args.protocol c.args.cells.items = ap (λ (cells : List HubCell). hub_of c.args.protocol cells) c.in_ok-begun.ensures.started in
    let driven = c.drive_cells.ensures in
    record {
      end = driven.0;
      streamed = streamed_from HubAnswer HubCloses first driven.0
          (streams_of g.R.Source g.W.Sink g.W.BufferedSink.pending c.args.reader.now c.args.writer.now) (streams_of g.R.Source g.W.Sink g.W.BufferedSink.pending c.drive_cells.new.reader c.drive_cells.new.writer)
          c.drive_cells.result (hub_of_plans c.args.protocol c.args.cells.items) begun driven.1;
      done = driven.2;
      verified = on_ok c.drive_cells.result c.in_ok-begun.ensures.verified;
    }

pub returns-clause-untouched : goal.returns-clause-untouched
returns-clause-untouched g c memory = absurd (never_memory HubAnswer HubCloses _ _ _ _ c.drive_cells.result c.drive_cells.ensures.1 memory)

pub returns-in_err-begun-clause-driven : goal.returns-in_err-begun-clause-driven
returns-in_err-begun-clause-driven g c =
    let p = err_from_is_err_and c.from_residual.result c.from_residual.ensures.1 in undriven_hub c.args.cells.items c.args.protocol _ _ (p.1 ∙ ap Err p.2)

pub returns-in-Err-clause-driven : goal.returns-in-Err-clause-driven
returns-in-Err-clause-driven g c = undriven_hub c.args.cells.items c.args.protocol _ _ (ap Err c.from.ensures)
