use Rattle.std.proofs.Common.{Err, ap, subst}
use Rattle.byte_streams.specs.Lent.{streams_of}
use Rattle.cell_drive.specs.InProtocol.{BegunRun, IsDriveIn}
use Rattle.cell_drive.proofs.Sessions.{undriven_drive}
use Rattle.cell_drive.proofs.begin.drive_in.Goals as goal

pub returns-in-Ok-clause-driven : goal.returns-in-Ok-clause-driven
returns-in-Ok-clause-driven g c =
    subst (λ (b : BegunRun). IsDriveIn b.protocol b.verified (streams_of g.R.Source g.W.Sink g.W.BufferedSink.pending c.args.reader.now c.args.writer.now)
    (streams_of g.R.Source g.W.Sink g.W.BufferedSink.pending c.drive_begun.new.reader c.drive_begun.new.writer) c.drive_begun.result) c.in-Ok.ensures c.drive_begun.ensures.driven

pub returns-in-Ok-clause-untouched : goal.returns-in-Ok-clause-untouched
returns-in-Ok-clause-untouched g c memory = absurd (c.drive_begun.ensures.memory memory)

pub returns-in-Err-clause-driven : goal.returns-in-Err-clause-driven
returns-in-Err-clause-driven g c = undriven_drive c.args.verified c.args.protocol _ _ (ap Err c.from.ensures)
