-- Reached by public clauses: to be read and believed.
pub mod CommandLine
pub mod Given
pub mod Changes
pub mod Choice
