pub mod Arguments
pub mod why
