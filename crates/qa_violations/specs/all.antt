pub mod Tolerating
pub mod Violated
pub mod Objects
pub mod All
pub mod Keeping
pub mod Rows
