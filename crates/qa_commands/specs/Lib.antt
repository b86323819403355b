pub mod Checking
pub mod Commands
pub mod Ending
pub mod Explaining
pub mod Names
pub mod Writes
