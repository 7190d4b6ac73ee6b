use Rattle.std.proofs.Common.{rules}
use Rattle.byte_streams.proofs.into_sink.IntoSink.new.Goals as goal

pub returns-clause-unfailed : goal.returns-clause-unfailed
returns-clause-unfailed g c = search rules depth 2
