use Rattle.std.proofs.Common.{rules}
use Rattle.orlib_read.proofs.words.is_blank.Goals as goal

pub returns-else-byte-eq32 : goal.returns-else-byte-eq32
returns-else-byte-eq32 c = search rules depth 2
