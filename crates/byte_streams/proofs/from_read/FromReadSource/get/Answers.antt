use Rattle.std.proofs.Common.{rules}
use Rattle.byte_streams.proofs.from_read.FromReadSource.get.Goals as goal

pub returns-in-Ok-clause-given : goal.returns-in-Ok-clause-given
returns-in-Ok-clause-given g c = search rules depth 2

pub returns-in-Err-clause-failed : goal.returns-in-Err-clause-failed
returns-in-Err-clause-failed g c = search rules depth 2
