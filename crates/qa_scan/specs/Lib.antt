pub mod Digits
pub mod Lexes
pub mod Short
pub mod Strings
