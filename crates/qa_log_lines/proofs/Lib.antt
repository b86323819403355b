pub mod Going
pub mod Handed
