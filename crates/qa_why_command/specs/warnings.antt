pub mod Strange
pub mod Found
pub mod Texts
pub mod Warnings
pub mod Keeping
