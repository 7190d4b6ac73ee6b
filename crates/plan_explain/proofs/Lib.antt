pub mod ArcFacts
pub mod Printed
pub mod Moments
pub mod Texts
pub mod LineLaws
pub mod ChainTexts
pub mod AheadPaths
