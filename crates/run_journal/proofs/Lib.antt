mod Starts
mod Selected
mod Whole
pub mod ByLines
pub mod Fronts
mod Steps
mod CrashLines
mod Buffering
pub mod LeftEvents
mod PlansKept
mod TornEnds
mod TornAgain
pub mod Formed
pub mod LogRuns
pub mod NamedLogs
pub mod FormedLines
