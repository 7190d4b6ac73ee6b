pub mod KeptNames
pub mod Known
pub mod SeenNames
pub mod Places
pub mod AddedNames
pub mod Answering
