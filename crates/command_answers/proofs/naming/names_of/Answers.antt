use Rattle.command_answers.proofs.naming.names_of.Goals as goal

pub returns-in-Some : goal.returns-in-Some
returns-in-Some g c = rw c.in-Some.is c.names_in.ensures
