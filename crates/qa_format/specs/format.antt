-- The line format: lines, keys, what a line says, and what is written for it.
pub mod Faults
pub mod LineKinds
pub mod Lines
pub mod Keys
pub mod Tables
pub mod Reading
pub mod Written
pub mod Simple
pub mod AnyOrder
pub mod Proper
