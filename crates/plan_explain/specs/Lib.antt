-- Reached by public clauses: to be read and believed.
pub mod Known
pub mod Labels
pub mod Arcs
pub mod FirstLines
pub mod Cycles
pub mod Holds
pub mod Chains
pub mod Leavings
pub mod Parts
pub mod Explained
pub mod LineLaws
-- Of proofs and private contracts alone.
pub mod Added
pub mod ChainsFound
pub mod ArcLookups
