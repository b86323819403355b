pub mod Session
pub mod Recording
