pub mod text
pub mod members
