use Rattle.std.proofs.Common.{arith}
use Rattle.cell_drive.specs.{declared.resume.RestEnd.RestEnd, Session.{SessionAnswer, SessionCloses}}
use Rattle.cell_drive.proofs.{Sessions.rest_end_from, StreamedFrom.{ended_so, broken_so}}
use Rattle.cell_drive.proofs.resume.drive_on.Goals as goal

pub returns-in-Ok : goal.returns-in-Ok
returns-in-Ok g c =
    let end = c.stream.new.handler in (
      end,
      ended_so SessionAnswer SessionCloses c.args.session end _ _ _ c.end.result c.in-Ok.ensures,
      rest_end_from c.args.session end _ 1 _ c.end.result c.in-Ok.ensures.comes_to.are_answers c.end.ensures,
    )

pub returns : goal.returns
returns g c = (
  c.stream.new.handler,
  broken_so SessionAnswer SessionCloses c.args.session c.stream.new.handler _ _ RestEnd c.in-Err.fault (omega (arith, c.requires, c.deref_mut.ensures.len)) c.in-Err.ensures,
  tt,
)
