use Rattle.cell_hub.proofs.TicketRuns.{calls_make_the_controlled_runs}
use Rattle.cell_hub.proofs.laws.calls_make_the_controlled_runs.Goals as goal

pub returns : goal.returns
returns c = calls_make_the_controlled_runs
