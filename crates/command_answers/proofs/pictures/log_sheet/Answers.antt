use Rattle.std.proofs.Common.{refl}
use Rattle.command_answers.proofs.pictures.log_sheet.Goals as goal

pub returns : goal.returns
returns c = rw c.machine_count.ensures.count refl
