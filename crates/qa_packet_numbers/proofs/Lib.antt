pub mod Sets
pub mod Counts
pub mod Histories
pub mod Lacking
pub mod Removed
pub mod Counting
