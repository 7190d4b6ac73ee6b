-- Reached by public clauses: to be read and believed.
pub mod Words
pub mod Kinds
pub mod Instance
pub mod Faults
pub mod Answers
pub mod Lines
-- Of proofs and private contracts alone.
pub mod Reading
pub mod Cursor
pub mod Views
