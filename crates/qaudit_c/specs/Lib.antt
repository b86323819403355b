pub mod Held
pub mod Numbers
pub mod Statuses
pub mod Events
pub mod Telling
pub mod Calls
pub mod Reasons
