mod Endings
mod Noted
mod Traced
pub mod warnings_lemmas
