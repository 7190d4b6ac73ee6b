pub mod WordByWord
pub mod JobSteps
pub mod Ends
pub mod Readings
pub mod WrittenWords
pub mod EntryParses
pub mod PlanLines
