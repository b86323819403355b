mod Asking
mod Files
mod Words
pub mod why_lemmas
