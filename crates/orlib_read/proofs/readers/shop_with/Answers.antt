use Rattle.std.proofs.Common.{rules}
use Rattle.orlib_read.proofs.readers.shop_with.Goals as goal

pub returns-clause-fault : goal.returns-clause-fault
returns-clause-fault c = search rules depth 2
