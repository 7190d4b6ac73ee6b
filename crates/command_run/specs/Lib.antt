-- Reached by public clauses: to be read and believed.
pub mod Streams
pub mod Inputs
pub mod Pictures
pub mod Planners
pub mod Improvers
pub mod Drives
pub mod Resumes
pub mod Revisions
pub mod Misfits
pub mod Logs
pub mod Hubs
pub mod Ending
pub mod Program
pub mod Laws
-- Of proofs and private contracts alone.
pub mod Unchosen
pub mod Readiness
