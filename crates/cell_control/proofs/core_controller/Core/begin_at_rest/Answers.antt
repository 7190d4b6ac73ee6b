use Rattle.std.proofs.Common.{rules}
use Rattle.cell_control.proofs.core_controller.Core.begin_at_rest.Goals as goal

pub returns : goal.returns
returns g c = search rules
