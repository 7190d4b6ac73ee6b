-- Reached by public clauses: to be read and believed.
pub mod Visits
pub mod GanttText
pub mod DrawnVisits
pub mod LeavingsSoFar
-- Of proofs and private contracts alone.
pub mod VisitEnds
pub mod FirstMoments
pub mod LinkedVisits
pub mod Pushing
