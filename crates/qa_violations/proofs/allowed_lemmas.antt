pub mod Begin
pub mod Lines
pub mod Notes
