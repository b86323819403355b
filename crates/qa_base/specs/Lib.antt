pub mod values
pub mod machine
pub mod history
