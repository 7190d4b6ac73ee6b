use Rattle.std.proofs.Common.{arith, refl}
use Rattle.alt_graph.proofs.cycle_check.is_new.Goals as goal

pub returns : goal.returns
returns c = (λ _ k lt. c.loop-earlier.invariant k (omega arith), λ _. refl)
