-- Reached by public clauses: to be read and believed.
pub mod ResumeLaw
pub mod HubLaw
pub mod LoggedLaw
pub mod HistoryLaw
pub mod OneLogLaw
pub mod PlanLaw
pub mod MemoryLaw
pub mod NextLogLaw
