-- Reached by public clauses: to be read and believed.
pub mod CellsAlone
pub mod AnswerLaw
pub mod RecoveryLaw
pub mod FloorLaw
pub mod CopiesLaw
pub mod StatesLaw
pub mod LeapLaw
pub mod VersionsLaw
pub mod ResumedLaw
pub mod ShortLinesLaw
pub mod CellsVersionsLaw
pub mod SameReportsLaw
pub mod OneRunLaw
pub mod BrokenLaw
