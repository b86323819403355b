-- Lemmas of the quick reader.
pub mod Reading
pub mod Spelling
pub mod Known
pub mod Finding
pub mod Taking
pub mod Present
pub mod Saying
pub mod Listing
pub mod Items
pub mod Making
