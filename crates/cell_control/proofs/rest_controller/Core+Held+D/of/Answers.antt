use Rattle.std.proofs.Common.{rules}
use Rattle.cell_control.proofs.rest_controller.Core+Held+D.of.Goals as goal

pub invariant_of-result : goal.invariant_of-result
invariant_of-result g c = search rules
