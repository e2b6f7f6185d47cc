pub mod Versions
pub mod Dropping
