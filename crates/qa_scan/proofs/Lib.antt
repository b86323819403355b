-- Lemmas of the tokens.
pub mod Finite
pub mod Matching
pub mod Numerals
pub mod Tops
pub mod Lexing
pub mod Lanes
pub mod Passing
pub mod Runs
