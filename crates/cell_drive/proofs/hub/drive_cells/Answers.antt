use Rattle.std.proofs.Common.{arith}
use Rattle.cell_drive.specs.{declared.hub.HubEnd.HubEnd, ProtocolCells.{HubAnswer, HubCloses}}
use Rattle.cell_drive.proofs.StreamedFrom.{ended_so, broken_so}
use Rattle.cell_drive.proofs.hub.drive_cells.Goals as goal

pub returns-in-Ok : goal.returns-in-Ok
returns-in-Ok g c =
    let end = c.stream.new.handler in (
      end,
      ended_so HubAnswer HubCloses c.args.driven end _ _ _ c.end.result c.in-Ok.ensures,
      c.end.ensures,
    )

pub returns : goal.returns
returns g c = (
  c.stream.new.handler,
  broken_so HubAnswer HubCloses c.args.driven c.stream.new.handler _ _ HubEnd c.in-Err.fault (omega (arith, c.requires, c.deref_mut.ensures.len)) c.in-Err.ensures,
  tt,
)
