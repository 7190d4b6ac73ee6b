-- Reached by public clauses: to be read and believed.
pub mod Stages
pub mod Limits
pub mod Answered
pub mod LimitsLaw
-- Of proofs and private contracts alone.
pub mod Asked
