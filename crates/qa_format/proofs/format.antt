-- Lemmas about what lines say and what is written for them.
pub mod Sized
pub mod KeysRead
pub mod ProperReadings
pub mod KeysWritten
pub mod OneLine
pub mod LinesWritten
pub mod Compact
pub mod AnyOrder
pub mod KeysFound
pub mod PlainTexts
pub mod OrdersRead
pub mod Lengths
