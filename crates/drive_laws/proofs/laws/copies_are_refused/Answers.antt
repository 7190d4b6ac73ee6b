use Rattle.drive_laws.proofs.AcceptedOnce as once
use Rattle.drive_laws.proofs.laws.copies_are_refused.Goals as goal

pub returns-clause-driven : goal.returns-clause-driven
returns-clause-driven c = once.a_driven_cell_refuses_copies
