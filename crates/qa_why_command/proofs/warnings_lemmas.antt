pub mod Firsts
pub mod Found
pub mod Telling
