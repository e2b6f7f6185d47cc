pub mod Members
pub mod Advancing
pub mod Adding
pub mod Uniting
pub mod Highest
pub mod Ascending
pub mod Computing
