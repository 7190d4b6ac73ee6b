mod ArcsAgain
mod Between
mod Counts
mod Closed
mod Farthest
pub mod Acceptance
mod Numbered
mod Spans
mod Entries
mod KeptArcs
mod Asks
