use Rattle.drive_laws.proofs.AcceptedOnce as once
use Rattle.drive_laws.proofs.laws.nothing_is_accepted_twice.Goals as goal

pub returns-clause-driven : goal.returns-clause-driven
returns-clause-driven c = once.nothing_is_accepted_twice
