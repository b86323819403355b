mod Among
pub mod Told
pub mod Found
pub mod suggest_lemmas
pub mod caveats_lemmas
