use Rattle.command_answers.proofs.inputs.ParsedInputs.shaped.Goals as goal

pub returns-in-Err-clause-first_fault : goal.returns-in-Err-clause-first_fault
returns-in-Err-clause-first_fault c = rw (← c.self.view_is) c.in-Err.ensures.first_fault
