pub mod Agreement
pub mod Terms
pub mod Strict
