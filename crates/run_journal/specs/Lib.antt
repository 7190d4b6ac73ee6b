-- Reached by public clauses: to be read and believed.
pub mod LogFiles
pub mod Folders
pub mod Openings
pub mod WholeLines
pub mod LogRuns
pub mod LoggedLines
pub mod Selecting
pub mod Logged
pub mod Buffering
pub mod Laws
pub mod LeftLogs
pub mod TornEnds
