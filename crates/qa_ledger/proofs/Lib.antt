pub mod Totals
pub mod Firsts
pub mod Parts
