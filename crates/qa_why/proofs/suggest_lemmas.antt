pub mod Named
pub mod KeysOf
