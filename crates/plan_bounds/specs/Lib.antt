-- Reached by public clauses: to be read and believed.
pub mod Bounds
pub mod BoundsLaw
pub mod Makespan
-- Of proofs and private contracts alone.
pub mod Greatest
pub mod Seen
