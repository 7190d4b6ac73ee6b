-- Reached by public clauses: to be read and believed.
pub mod Choices
pub mod Outcomes
-- Of proofs and private contracts alone.
pub mod Reach
pub mod Branches
pub mod Waits
