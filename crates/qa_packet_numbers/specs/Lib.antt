pub mod Runs
pub mod Sent
pub mod Missing
pub mod Counting
