-- Reached by public clauses: to be read and believed.
pub mod Sinks
pub mod Lines
pub mod Lent
pub mod Answering
pub mod Streams
pub mod Devices
pub mod Statuses
-- Of proofs and private contracts alone.
pub mod Holding
pub mod Reading
