pub mod machine
pub mod Units
pub mod history
