use Rattle.std.proofs.Common.{rules}
use Rattle.shop_base.proofs.FirstVisits.{once-sound}
use Rattle.shop_base.proofs.shop.check_step.Goals as goal

pub returns-clause-sound : goal.returns-clause-sound
returns-clause-sound c = once-sound _ _ _ _ (search rules) (search rules) (search rules)

pub returns-then-is_twice-clause-first_fault : goal.returns-then-is_twice-clause-first_fault
returns-then-is_twice-clause-first_fault c = search rules depth 2

pub returns-then-route-step-gt-MAX_NOMINAL-clause-first_fault : goal.returns-then-route-step-gt-MAX_NOMINAL-clause-first_fault
returns-then-route-step-gt-MAX_NOMINAL-clause-first_fault c = search rules depth 2
