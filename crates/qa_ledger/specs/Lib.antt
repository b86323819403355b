pub mod Tests
pub mod causes
