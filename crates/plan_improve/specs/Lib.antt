-- Reached by public clauses: to be read and believed.
pub mod Costs
pub mod RestCosts
pub mod AtBound
pub mod RestOf
pub mod Settings
pub mod Watching
pub mod Runs
pub mod Improved
pub mod Faults
pub mod Laws
-- Of proofs and private contracts alone.
pub mod Keeping
pub mod RestKeeping
