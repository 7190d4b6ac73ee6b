use Rattle.std.proofs.Common.{rules}
use Rattle.plan_text.proofs.plan_fault.PlanFaultFromDeError.from.Goals as goal

pub returns-then-is_memory : goal.returns-then-is_memory
returns-then-is_memory c = search rules depth 2

pub returns-else-is_memory : goal.returns-else-is_memory
returns-else-is_memory c = search rules depth 2
