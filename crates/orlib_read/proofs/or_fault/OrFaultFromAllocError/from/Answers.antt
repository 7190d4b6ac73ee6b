use Rattle.std.proofs.Common.{refl}
use Rattle.orlib_read.proofs.or_fault.OrFaultFromAllocError.from.Goals as goal

pub returns : goal.returns
returns c = refl
