-- Reached by public clauses: to be read and believed.
pub mod Orders
pub mod Tasks
pub mod Turns
pub mod Search
-- Of proofs and private contracts alone.
pub mod Outcomes
pub mod Growing
