-- Reached by public clauses: to be read and believed.
pub mod Log
pub mod Audits
pub mod AuditNames
pub mod Present
pub mod Digits
-- Of proofs and private contracts alone.
pub mod Auditing
