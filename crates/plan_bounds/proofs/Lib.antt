mod Sizes
mod Paths
pub mod AlonePaths
mod Placed
mod Chains
mod Showing
mod Leasts
mod Steps
mod Looking
mod Greater
pub mod Bounded
