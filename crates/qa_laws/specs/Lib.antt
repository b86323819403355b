pub mod machine
pub mod verdicts
pub mod losses
