pub mod Tried
pub mod Sent
