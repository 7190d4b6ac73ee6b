-- Reached by public clauses: to be read and believed.
pub mod Keys
pub mod NameTexts
pub mod Clocks
pub mod NameBooks
pub mod Words
pub mod KeptNames
pub mod NameLines
pub mod Faults
pub mod Reading
pub mod Documents
pub mod AddedNames
pub mod Answers
pub mod Laws
-- Of invariants and private contracts alone.
pub mod Lists
