pub mod Added
pub mod Closed
pub mod Listed
