use Rattle.logged_drive.proofs.Crashes.{recovered_again_run}
use Rattle.logged_drive.proofs.laws.a_recovered_run_is_recovered.Goals as goal

pub returns : goal.returns
returns c = recovered_again_run
