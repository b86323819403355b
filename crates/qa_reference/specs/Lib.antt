pub mod Listed
pub mod Words
pub mod Looks
pub mod Holding
pub mod Estimated
