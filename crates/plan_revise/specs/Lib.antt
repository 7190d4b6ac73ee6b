-- Reached by public clauses: to be read and believed.
pub mod Orders
pub mod Promises
pub mod Ended
pub mod Placed
pub mod Settings
pub mod Aside
pub mod Stopped
pub mod Dates
pub mod AnotherWay
pub mod Held
pub mod Routes
pub mod Changes
pub mod Refusals
pub mod Revised
pub mod Names
pub mod Effects
pub mod Paths
pub mod RevisedLaw
-- Of proofs and private contracts alone.
pub mod Fits
pub mod Answers
pub mod Parts
pub mod Reaching
pub mod Stages
