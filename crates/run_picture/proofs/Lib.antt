pub mod Steps
pub mod Ticks
pub mod Parts
pub mod Visits
pub mod LateLeavings
