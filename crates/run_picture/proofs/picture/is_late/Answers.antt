use Rattle.std.proofs.Common.{rules}
use Rattle.run_picture.proofs.picture.is_late.Goals as goal

pub returns-in-Some : goal.returns-in-Some
returns-in-Some c = search rules
