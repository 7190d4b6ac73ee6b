pub mod AuditKeeps
pub mod CellsAlone
pub mod SettledCuts
pub mod Recoveries
pub mod AnsweredAgain
pub mod ReplayInProtocol
pub mod LeftOut
pub mod ShortLines
pub mod Plainly
pub mod Versions
pub mod ClaimMoments
pub mod AcceptedOnce
pub mod Resumes
pub mod OrderedRightly
pub mod SentTruly
pub mod OnlyAdds
pub mod ResumedOnce
pub mod LateWords
pub mod BegunByLast
pub mod NoLeap
pub mod ShortNumbers
pub mod SameReports
pub mod ReportLines
pub mod GoneOnAsOne
pub mod LawProofs
mod ShortAnswers
mod BrokenDrives
