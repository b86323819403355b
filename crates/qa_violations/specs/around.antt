pub mod Texts
pub mod Rows
pub mod Members
pub mod Keeping
pub mod Around
