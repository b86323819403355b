-- Words for laws of the machine: what a sender does in a run, and what one more event makes of its
-- packets.
pub mod Useful
pub mod Fates
pub mod Alike
pub mod Conduct
pub mod Congested
pub mod Latest
pub mod Skipped
