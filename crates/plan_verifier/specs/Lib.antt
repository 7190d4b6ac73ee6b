-- Reached by public clauses: to be read and believed.
pub mod Accepted
pub mod Verdicts
pub mod Seen
pub mod ByDeadlines
pub mod Held
pub mod Rest
pub mod RestVerdicts
pub mod FromThere
pub mod Leavings
pub mod StartLaw
pub mod VisitedAgain
-- Of proofs and private contracts alone.
pub mod JobHolds
pub mod FromBounds
pub mod CellBounds
pub mod PathBounds
