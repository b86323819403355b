pub mod Amounts
pub mod Table
pub mod Steps
pub mod Texts
pub mod Members
