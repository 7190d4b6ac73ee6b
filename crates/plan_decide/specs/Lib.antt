-- Reached by public clauses: to be read and believed.
pub mod Cases
pub mod Pasts
pub mod Promises
pub mod Excluding
pub mod Objectives
pub mod Decisions
pub mod Laws
-- Of proofs and private contracts alone.
pub mod Settings
pub mod Asking
pub mod Listed
pub mod LeftOut
pub mod Halves
pub mod Found
