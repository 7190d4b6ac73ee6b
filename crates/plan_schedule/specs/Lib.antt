-- Reached by public clauses: to be read and believed.
pub mod Lines
pub mod Schedules
pub mod ScheduleLines
pub mod Scheduled
pub mod DrawnVisits
pub mod Lateness
pub mod OnTime
pub mod ScheduleLaw
-- Of proofs and private contracts alone.
pub mod Calendars
