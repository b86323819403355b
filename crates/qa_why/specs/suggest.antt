pub mod KeyTables
pub mod OtherNames
pub mod Near
pub mod StandsFor
