pub mod Rows
pub mod SerialPlan
pub mod SeriallyLate
pub mod Asking
