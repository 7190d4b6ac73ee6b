use Rattle.cell_control.proofs.Promises.{calls_go_on}
use Rattle.cell_control.proofs.laws.calls_go_on.Goals as goal

pub returns : goal.returns
returns c = calls_go_on
