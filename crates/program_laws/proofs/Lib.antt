pub mod PlainWords
pub mod GoodFiles
pub mod GoodHubs
pub mod GoodInputs
pub mod GoodRuns
mod CommandNames
mod ShownLogs
pub mod SameWriting
pub mod SameResuming
mod SameHubs
mod SameLogged
pub mod KnownHistories
pub mod OneLogs
mod NamedPlans
mod TouchedLogs
mod NextLogs
