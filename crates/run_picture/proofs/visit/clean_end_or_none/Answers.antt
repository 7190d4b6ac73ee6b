use Rattle.std.proofs.Common.{rules}
use Rattle.run_picture.proofs.visit.clean_end_or_none.Goals as goal

pub returns-in-By : goal.returns-in-By
returns-in-By c = search rules
