use Rattle.std.proofs.Common.{arith, refl}
use Rattle.plan_decide.proofs.halving.narrowed.Goals as goal

pub returns-in-Never : goal.returns-in-Never
returns-in-Never c = λ t objective known is. (
  record { found = known.found; least = rw c.in-Never.is at is; same = λ _. refl },
  omega (arith, c.requires.low, c.requires.limit),
)
