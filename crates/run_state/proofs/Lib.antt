pub mod Lines
pub mod Targets
pub mod OneForm
