pub mod Rows
pub mod Headed
pub mod Noted
pub mod Staying
pub mod Laws
