pub mod Told
pub mod Staying
