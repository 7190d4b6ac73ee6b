use Rattle.drive_laws.proofs.AuditKeeps as law
use Rattle.drive_laws.proofs.laws.an_audit_keeps_what_was_driven.Goals as goal

pub returns : goal.returns
returns c = law.an_audit_keeps_what_was_driven
