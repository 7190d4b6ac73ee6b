use Rattle.drive_laws.proofs.Resumes as law
use Rattle.drive_laws.proofs.laws.what_was_resumed_goes_on.Goals as goal

pub returns : goal.returns
returns c = law.what_was_resumed_goes_on
