pub mod Noted
pub mod Nearest
