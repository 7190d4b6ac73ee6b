-- Reached by public clauses: to be read and believed.
pub mod StateLines
pub mod StateText
pub mod OneForm
