-- What things are: ranges, names, headers, and what is asked of one event.
pub mod Limits
pub mod Constants
pub mod Names
pub mod Settings
pub mod Events
pub mod Kinds
pub mod PerSpace
