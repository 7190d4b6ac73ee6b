use Rattle.std.proofs.Common.{arith, rules}
use Rattle.std.proofs.lemmas.Grind.{common_steps}
use Rattle.shop_base.proofs.shape_check.check_counts.Goals as goal

pub returns-in-Some-clause-first_fault : goal.returns-in-Some-clause-first_fault
returns-in-Some-clause-first_fault c = grind (arith, common_steps)

pub returns-in_default-2-clause-sound : goal.returns-in_default-2-clause-sound
returns-in_default-2-clause-sound c = grind (arith, common_steps)

pub returns-in_default-clause-sound : goal.returns-in_default-clause-sound
returns-in_default-clause-sound c = grind (arith, common_steps)

pub returns-then-len-machines-clause-first_fault : goal.returns-then-len-machines-clause-first_fault
returns-then-len-machines-clause-first_fault c = grind (arith, common_steps)

pub returns-then-len-jobs-2-clause-first_fault : goal.returns-then-len-jobs-2-clause-first_fault
returns-then-len-jobs-2-clause-first_fault c = search rules depth 2
