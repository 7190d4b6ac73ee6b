use Rattle.program_laws.proofs.SameLogged.{logged_drive_writes_the_same}
use Rattle.program_laws.proofs.laws.logged_drive_writes_the_same.Goals as goal

pub returns : goal.returns
returns c = logged_drive_writes_the_same
