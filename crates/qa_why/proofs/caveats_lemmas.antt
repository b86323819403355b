pub mod Guesses
pub mod Missing
pub mod Noted
