use Rattle.std.proofs.Common.{rules}
use Rattle.byte_streams.proofs.from_read.FromRead.new.Goals as goal

pub returns-clause-unfailed : goal.returns-clause-unfailed
returns-clause-unfailed g c = search rules depth 2
