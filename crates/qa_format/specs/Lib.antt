pub mod format
pub mod verdicts
