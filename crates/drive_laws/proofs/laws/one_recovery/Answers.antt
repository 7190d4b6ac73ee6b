use Rattle.drive_laws.proofs.Recoveries as law
use Rattle.drive_laws.proofs.laws.one_recovery.Goals as goal

pub returns-clause-one : goal.returns-clause-one
returns-clause-one c = law.one_recovery

pub returns-clause-text : goal.returns-clause-text
returns-clause-text c = law.one_text_from_a_log
