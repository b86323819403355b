pub mod Remarks
pub mod Guesses
pub mod Missing
pub mod Caveats
