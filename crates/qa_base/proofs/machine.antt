-- Lemmas about histories and the machine.
pub mod Histories
pub mod Quiet
pub mod Declared
pub mod RunLaws
pub mod Ranges
pub mod Steps
pub mod PtoCount
pub mod WindowBound
pub mod Collapses
pub mod Powers
