use Rattle.std.proofs.Common.{refl}
use Rattle.plan_text.proofs.keys.PlanKey.name.Goals as goal

pub returns-in-Clean : goal.returns-in-Clean
returns-in-Clean c = rw c.in-Clean.is refl
