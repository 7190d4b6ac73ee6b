-- Reached by public clauses: to be read and believed.
pub mod NextReports
pub mod MovesFrom
pub mod MovesLaw
pub mod MoveLines
-- Of proofs and private contracts alone.
pub mod Soonest
pub mod RunsOn
