pub mod table
pub mod allowed
pub mod around
pub mod all
pub mod laws
