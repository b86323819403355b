pub mod Asking
pub mod Beside
pub mod Found
pub mod Handing
pub mod Parsed
pub mod Parts
pub mod Steps
pub mod Whole
