pub mod LongerPaths
pub mod GreatestLengths
pub mod InMargin
pub mod Halving
