-- Reached by public clauses: to be read and believed.
pub mod Lines
pub mod Cuts
pub mod Numbers
pub mod Searches
