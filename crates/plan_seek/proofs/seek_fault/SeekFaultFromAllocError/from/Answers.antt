use Rattle.std.proofs.Common.{refl}
use Rattle.plan_seek.proofs.seek_fault.SeekFaultFromAllocError.from.Goals as goal

pub returns : goal.returns
returns c = refl
