use Rattle.std.proofs.Common.{rules}
use Rattle.cell_control.proofs.checking.check_cleaning_after.Goals as goal

pub returns-in-Some-clause-possible : goal.returns-in-Some-clause-possible
returns-in-Some-clause-possible g c = search rules
