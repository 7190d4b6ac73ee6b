-- Reached by public clauses: to be read and believed.
pub mod LoggedRuns
pub mod RecoveredLogs
pub mod CrashLaw
