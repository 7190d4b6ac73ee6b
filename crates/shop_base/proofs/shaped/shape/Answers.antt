use Rattle.std.proofs.Common.{rules}
use Rattle.shop_base.proofs.Refusals.{refused_just, shape_fault_refutes}
use Rattle.shop_base.proofs.OneFault.{shape_fault_once}
use Rattle.shop_base.proofs.shaped.shape.Goals as goal

pub returns-in-Err-clause-exact : goal.returns-in-Err-clause-exact
returns-in-Err-clause-exact c = refused_just (shape_fault_refutes _ _ c.in-Err.ensures.first_fault)

pub returns-in-Err-clause-only_fault : goal.returns-in-Err-clause-only_fault
returns-in-Err-clause-only_fault c = λ other is. shape_fault_once _ other c.in-Err.fault is c.in-Err.ensures.first_fault

pub returns-in-Ok-clause-exact : goal.returns-in-Ok-clause-exact
returns-in-Ok-clause-exact c = search rules depth 2

pub returns-in-Ok-clause-first_fault : goal.returns-in-Ok-clause-first_fault
returns-in-Ok-clause-first_fault c = search rules depth 2

pub returns-in-Ok-clause-only_fault : goal.returns-in-Ok-clause-only_fault
returns-in-Ok-clause-only_fault c = search rules depth 2
