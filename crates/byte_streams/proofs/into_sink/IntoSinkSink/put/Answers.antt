use Rattle.std.proofs.Common.{rules}
use Rattle.byte_streams.proofs.into_sink.IntoSinkSink.put.Goals as goal

pub returns-in_default-clause-failed : goal.returns-in_default-clause-failed
returns-in_default-clause-failed g c = search rules depth 2

pub returns-in-Ok-clause-count : goal.returns-in-Ok-clause-count
returns-in-Ok-clause-count g c = search rules depth 2
