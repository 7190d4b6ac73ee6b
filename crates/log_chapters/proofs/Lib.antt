pub mod Behind
pub mod Numbers
pub mod ChapterLines
pub mod TakenOut
pub mod Beginnings
pub mod Recorded
pub mod Prefixes
