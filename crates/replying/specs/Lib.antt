pub mod Judged
pub mod Nearest
pub mod Sent
