pub mod Cuts
pub mod Cutting
pub mod Lending
pub mod Stream
