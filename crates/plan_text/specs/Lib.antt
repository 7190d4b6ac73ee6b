-- Reached by public clauses: to be read and believed.
pub mod Keys
pub mod Numbers
pub mod Plans
pub mod Faults
pub mod Documents
pub mod Lines
pub mod Answers
-- Of proofs and private contracts alone.
pub mod RowText
pub mod Listing
pub mod Reading
