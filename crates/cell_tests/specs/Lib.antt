-- Reached by public clauses: to be read and believed.

-- Of proofs and private contracts alone.
pub mod Memory
pub mod Shown
