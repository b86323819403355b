pub mod table_lemmas
pub mod around_lemmas
pub mod all_lemmas
pub mod laws_lemmas
mod allowed_lemmas
