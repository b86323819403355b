pub mod Handing
pub mod Reading
