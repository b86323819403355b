pub mod InOrder
pub mod NoFloat
