pub mod text_lemmas
pub mod members_lemmas
