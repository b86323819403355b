pub mod Sums
pub mod Sets
pub mod Accepted
pub mod Breaking
pub mod Agreement
pub mod Unviolated
pub mod Amounts
pub mod Strict
