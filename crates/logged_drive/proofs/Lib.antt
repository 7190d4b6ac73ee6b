pub mod LoggedSteps
mod FormedAnswers
mod FormedStates
mod Crashes
mod Given
mod Takings
mod LeftLogs
