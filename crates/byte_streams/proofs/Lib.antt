pub mod Written
pub mod Held
pub mod AnsweredLines
pub mod Taking
pub mod Drains
pub mod WholeLines
pub mod Streamed
