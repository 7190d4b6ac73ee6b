-- Reached by public clauses: to be read and believed.
pub mod Staying
pub mod Pruned
pub mod PrunedEvents
pub mod Over
pub mod PruningLaw
pub mod RestLaw
pub mod OnwardLaw
pub mod Numbers
pub mod Spare
pub mod SpareLaw
pub mod CycleLaw
