use Rattle.std.proofs.Common.{refl}
use Rattle.cellplan_c.proofs.names.cellplan_version.Goals as goal

pub returns : goal.returns
returns c = refl
