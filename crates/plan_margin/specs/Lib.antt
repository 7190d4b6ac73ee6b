-- Reached by public clauses: to be read and believed.
pub mod Longer
pub mod Margins
pub mod WithinMargin
pub mod MarginLine
-- Of proofs and private contracts alone.
pub mod Order
pub mod Lengths
