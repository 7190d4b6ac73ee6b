use Rattle.program_laws.proofs.SameWriting.{drive_writes_the_same}
use Rattle.program_laws.proofs.laws.drive_writes_the_same.Goals as goal

pub returns : goal.returns
returns c = drive_writes_the_same
