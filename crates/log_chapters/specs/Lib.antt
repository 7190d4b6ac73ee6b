-- Reached by public clauses: to be read and believed.
pub mod Chapters
pub mod NamesGiven
pub mod ChapterLaw
