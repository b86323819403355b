pub mod Object
pub mod Subjects
pub mod Sources
pub mod Losses
pub mod Sending
pub mod Deadlines
pub mod Reports
pub mod Facts
