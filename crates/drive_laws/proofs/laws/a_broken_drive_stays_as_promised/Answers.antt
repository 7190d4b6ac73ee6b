use Rattle.drive_laws.proofs.BrokenDrives.{a_broken_drive_stays_as_promised}
use Rattle.drive_laws.proofs.laws.a_broken_drive_stays_as_promised.Goals as goal

pub returns : goal.returns
returns c = a_broken_drive_stays_as_promised
