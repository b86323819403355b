pub mod Ranges
pub mod Items
pub mod Found
