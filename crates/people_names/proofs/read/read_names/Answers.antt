use Rattle.toml.specs.View.{table_view}
use Rattle.people_names.proofs.Answering.{found, only, fault_is_first, first_is_fault, refused_names, refused_fault}
use Rattle.people_names.proofs.read.read_names.Goals as goal

pub returns-in-Ok-clause-found : goal.returns-in-Ok-clause-found
returns-in-Ok-clause-found c = found c.args.jobs c.args.machines c.args.text.now (table_view c.in-Ok.table) c.names_in.result c.in-Ok.ensures.document c.names_in.ensures.faults c.names_in.ensures.value

pub returns-in-Ok-clause-only : goal.returns-in-Ok-clause-only
returns-in-Ok-clause-only c = only c.args.jobs c.args.machines c.args.text.now (table_view c.in-Ok.table) c.names_in.result c.in-Ok.ensures.document c.names_in.ensures.faults c.names_in.ensures.value

pub returns-in-Ok-clause-fault : goal.returns-in-Ok-clause-fault
returns-in-Ok-clause-fault c = fault_is_first c.args.jobs c.args.machines c.args.text.now (table_view c.in-Ok.table) c.names_in.result c.in-Ok.ensures.document c.names_in.ensures.faults

pub returns-in-Ok-clause-first : goal.returns-in-Ok-clause-first
returns-in-Ok-clause-first c = first_is_fault c.args.jobs c.args.machines c.args.text.now (table_view c.in-Ok.table) c.names_in.result c.in-Ok.ensures.document c.names_in.ensures.faults

pub returns-in-Err-clause-only : goal.returns-in-Err-clause-only
returns-in-Err-clause-only c = refused_names c.args.jobs c.args.machines c.args.text.now c.in-Err.fault c.in-Err.ensures.refused

pub returns-in-Err-clause-first : goal.returns-in-Err-clause-first
returns-in-Err-clause-first c = refused_fault c.args.jobs c.args.machines c.args.text.now c.in-Err.fault c.in-Err.ensures.refused
