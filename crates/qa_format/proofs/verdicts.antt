-- Lemmas about lines and the verdict of their bytes.
pub mod Cuts
pub mod Stops
pub mod Fixed
pub mod Accepted
pub mod RunsAccepted
pub mod Rows
