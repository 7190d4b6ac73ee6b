use Rattle.std.proofs.Common.{refl}
use Rattle.plan_text.proofs.plan_fault.PlanFaultFromAllocError.from.Goals as goal

pub returns : goal.returns
returns c = refl
