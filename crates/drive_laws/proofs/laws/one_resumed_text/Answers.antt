use Rattle.drive_laws.proofs.Resumes.{one_resumed_text, resumed_text}
use Rattle.drive_laws.proofs.laws.one_resumed_text.Goals as goal

pub returns-clause-one : goal.returns-clause-one
returns-clause-one c = one_resumed_text

pub returns-clause-resumed : goal.returns-clause-resumed
returns-clause-resumed c = resumed_text
