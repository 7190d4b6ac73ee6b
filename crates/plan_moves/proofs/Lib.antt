pub mod Turns
pub mod WentOn
pub mod GoingOn
pub mod OneList
