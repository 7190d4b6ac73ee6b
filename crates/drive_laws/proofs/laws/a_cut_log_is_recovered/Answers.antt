use Rattle.drive_laws.proofs.Resumes.{what_was_resumed_is_recoverable}
use Rattle.drive_laws.proofs.laws.a_cut_log_is_recovered.Goals as goal

pub returns-clause-again : goal.returns-clause-again
returns-clause-again c = what_was_resumed_is_recoverable
