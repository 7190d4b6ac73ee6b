-- Reached by public clauses: to be read and believed.
pub mod Hub
pub mod Slots
pub mod Calls
pub mod RefusalNames
pub mod Laws
