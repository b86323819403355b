pub mod Allowed
pub mod Lines
pub mod Keeping
pub mod Choices
pub mod Texts
pub mod Members
pub mod Rests
pub mod Items
