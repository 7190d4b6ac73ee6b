use Rattle.std.proofs.Common.{rules}
use Rattle.orlib_read.proofs.reading.read_head.Goals as goal

pub returns : goal.returns
returns c = search rules depth 2

pub returns-in_default-worded_sizes_of : goal.returns-in_default-worded_sizes_of
returns-in_default-worded_sizes_of c = search rules depth 2
