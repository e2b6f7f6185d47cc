pub mod Stores
pub mod Edits
