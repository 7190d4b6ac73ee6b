use Rattle.std.proofs.Common.{rules}
use Rattle.shop_base.proofs.limit_check.check_limits.Goals as goal

pub returns-in-Some-first_above-2-clause-first_fault : goal.returns-in-Some-first_above-2-clause-first_fault
returns-in-Some-first_above-2-clause-first_fault c = search rules depth 2

pub returns-in_default-first_above-2-clause-sound : goal.returns-in_default-first_above-2-clause-sound
returns-in_default-first_above-2-clause-sound c = search rules depth 2
