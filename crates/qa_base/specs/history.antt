-- Words for laws of the machine: what a sender does in a tolerated run, and what one more event
-- makes of its packets.
pub mod Sequence
pub mod Parts
pub mod Oldest
pub mod Sums
pub mod Declared
pub mod Among
