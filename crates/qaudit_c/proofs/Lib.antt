pub mod AsBox
pub mod Ranges
