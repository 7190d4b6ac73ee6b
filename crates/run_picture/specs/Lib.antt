-- Reached by public clauses: to be read and believed.
pub mod Late
pub mod Boxes
pub mod Frame
pub mod Axis
pub mod Parts
pub mod Words
pub mod BoxText
pub mod PictureText
pub mod LastMoments
-- Of proofs and private contracts alone.
pub mod Steps
