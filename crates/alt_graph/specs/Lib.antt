-- Reached by public clauses: to be read and believed.
pub mod Evidence
pub mod Bounds
pub mod Times
pub mod Layout
pub mod Solved
pub mod Places
pub mod Lookups
pub mod PlanGraph
pub mod Sources
pub mod Latest
pub mod ByRank
-- Of proofs and private contracts alone.
pub mod Placing
pub mod Turns
pub mod Ranking
pub mod Trails
pub mod LatestRows
