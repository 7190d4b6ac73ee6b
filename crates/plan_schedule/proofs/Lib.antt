pub mod NextPlace
pub mod Behind
pub mod Drawing
pub mod ExactRun
