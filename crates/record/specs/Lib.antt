pub mod RecordGood
pub mod Crewed
