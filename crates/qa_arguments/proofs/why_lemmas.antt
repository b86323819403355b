pub mod Finish
pub mod Letters
pub mod Matches
pub mod Meaning
pub mod Rows
pub mod Turns
pub mod Walking
