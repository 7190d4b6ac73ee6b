use Rattle.toml.specs.View.{table_view}
use Rattle.plan_text.proofs.Answering.{found, only, fault_is_first, first_is_fault, refused_plan, refused_fault}
use Rattle.plan_text.proofs.read.read_plan.Goals as goal

pub returns-in-Ok-clause-found : goal.returns-in-Ok-clause-found
returns-in-Ok-clause-found c = found c.args.text.now (table_view c.in-Ok.table) c.plan_of.result c.in-Ok.ensures.document c.plan_of.ensures.faults c.plan_of.ensures.value

pub returns-in-Ok-clause-only : goal.returns-in-Ok-clause-only
returns-in-Ok-clause-only c = only c.args.text.now (table_view c.in-Ok.table) c.plan_of.result c.in-Ok.ensures.document c.plan_of.ensures.faults c.plan_of.ensures.value

pub returns-in-Ok-clause-fault : goal.returns-in-Ok-clause-fault
returns-in-Ok-clause-fault c = fault_is_first c.args.text.now (table_view c.in-Ok.table) c.plan_of.result c.in-Ok.ensures.document c.plan_of.ensures.faults

pub returns-in-Ok-clause-first : goal.returns-in-Ok-clause-first
returns-in-Ok-clause-first c = first_is_fault c.args.text.now (table_view c.in-Ok.table) c.plan_of.result c.in-Ok.ensures.document c.plan_of.ensures.faults

pub returns-in-Err-clause-only : goal.returns-in-Err-clause-only
returns-in-Err-clause-only c = refused_plan c.args.text.now c.in-Err.fault c.in-Err.ensures.refused

pub returns-in-Err-clause-first : goal.returns-in-Err-clause-first
returns-in-Err-clause-first c = refused_fault c.args.text.now c.in-Err.fault c.in-Err.ensures.refused
