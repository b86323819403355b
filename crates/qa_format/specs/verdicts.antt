-- What is said of a trace, and the text that says it.
pub mod Verdict
pub mod Report
pub mod Explain
