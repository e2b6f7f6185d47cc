pub mod Putting
pub mod Texts
