pub mod Restored
pub mod HasRecord
