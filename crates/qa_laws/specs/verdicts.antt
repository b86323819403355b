-- Words for laws of verdicts.
pub mod Grounds
