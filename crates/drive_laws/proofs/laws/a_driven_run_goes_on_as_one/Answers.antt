use Rattle.drive_laws.proofs.GoneOnAsOne as one
use Rattle.drive_laws.proofs.laws.a_driven_run_goes_on_as_one.Goals as goal

pub returns-clause-run : goal.returns-clause-run
returns-clause-run c = one.a_driven_run_goes_on_as_one

pub returns-clause-promised : goal.returns-clause-promised
returns-clause-promised c = one.it_stays_as_promised

pub returns-clause-resumed : goal.returns-clause-resumed
returns-clause-resumed c = one.what_was_resumed_has_its_orders
