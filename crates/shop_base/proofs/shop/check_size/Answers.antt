use Rattle.std.proofs.Common.{arith}
use Rattle.std.proofs.lemmas.Grind.{common_steps}
use Rattle.shop_base.proofs.shop.check_size.Goals as goal

pub returns-then-is_empty-clause-first_fault : goal.returns-then-is_empty-clause-first_fault
returns-then-is_empty-clause-first_fault c = grind (arith, common_steps)

pub returns-then-machines-eq0-clause-first_fault : goal.returns-then-machines-eq0-clause-first_fault
returns-then-machines-eq0-clause-first_fault c = grind (arith, common_steps)

pub returns-then-machines-gt-MAX_MACHINES-clause-first_fault : goal.returns-then-machines-gt-MAX_MACHINES-clause-first_fault
returns-then-machines-gt-MAX_MACHINES-clause-first_fault c = grind (arith, common_steps)

pub returns-then-routes-gt-MAX_JOBS-clause-first_fault : goal.returns-then-routes-gt-MAX_JOBS-clause-first_fault
returns-then-routes-gt-MAX_JOBS-clause-first_fault c = grind (arith, common_steps)
