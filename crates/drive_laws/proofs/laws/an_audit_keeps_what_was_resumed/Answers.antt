use Rattle.drive_laws.proofs.Resumes.{a_resumed_text_is_a_log, an_audit_keeps_what_was_resumed}
use Rattle.drive_laws.proofs.laws.an_audit_keeps_what_was_resumed.Goals as goal

pub returns-clause-log : goal.returns-clause-log
returns-clause-log c = a_resumed_text_is_a_log

pub returns-clause-audit : goal.returns-clause-audit
returns-clause-audit c = an_audit_keeps_what_was_resumed
