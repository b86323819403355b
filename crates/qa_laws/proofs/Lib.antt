pub mod machine
pub mod verdicts
pub mod Shorthand
pub mod edges
pub mod losses_lemmas
