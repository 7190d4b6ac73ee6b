-- Reached by public clauses: to be read and believed.
pub mod Renumbering
pub mod Holding
pub mod RunChanges
pub mod NextRuns
pub mod NextRunLaw
-- Of proofs and private contracts alone.
pub mod Parts
