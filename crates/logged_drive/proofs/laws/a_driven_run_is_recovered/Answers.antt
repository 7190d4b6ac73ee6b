use Rattle.logged_drive.proofs.Crashes.{driven_run}
use Rattle.logged_drive.proofs.laws.a_driven_run_is_recovered.Goals as goal

pub returns : goal.returns
returns c = driven_run
