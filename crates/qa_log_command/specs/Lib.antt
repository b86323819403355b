pub mod Converting
pub mod Ending
pub mod Failing
pub mod Written
