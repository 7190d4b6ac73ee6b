-- Reached by public clauses: to be read and believed.
pub mod Words
pub mod EventLines
pub mod SentLines
pub mod AnswerLines
pub mod Requests
pub mod StandingLines
pub mod LogLines
pub mod ReadBack
pub mod RunDigits
pub mod LastPlan
-- Of proofs and private contracts alone.
pub mod FirstWords
