use Rattle.std.proofs.Common.{rules}
use Rattle.orlib_read.proofs.kinds.name_of.Goals as goal

pub returns : goal.returns
returns c = search rules depth 2
