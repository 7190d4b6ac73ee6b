-- Reached by public clauses: to be read and believed.
pub mod Events
pub mod Moving
pub mod PlannedCell
pub mod Kept
pub mod Carried
pub mod KeptLaw
pub mod Readings
pub mod Claims
pub mod Recasts
pub mod Rests
pub mod Reordered
pub mod Standings
pub mod Tables
-- Of proofs and private contracts alone.
pub mod Entering
pub mod CarriedRows
