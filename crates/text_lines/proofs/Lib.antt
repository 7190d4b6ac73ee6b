pub mod FirstPlaces
pub mod Digits
pub mod FirstWords
pub mod NextLines
pub mod NumbersBefore
pub mod WrittenNumbers
pub mod EndedLines
