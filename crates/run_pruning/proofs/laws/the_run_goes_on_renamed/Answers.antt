use Rattle.run_pruning.proofs.Onward.{the_run_goes_on_renamed-holds}
use Rattle.run_pruning.proofs.laws.the_run_goes_on_renamed.Goals as goal

pub returns : goal.returns
returns c = the_run_goes_on_renamed-holds
