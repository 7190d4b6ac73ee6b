pub mod Tickets
pub mod Puts
pub mod Lives
pub mod Hubs
pub mod Called
pub mod TicketRuns
pub mod Claimed
