pub mod Ladder
pub mod Ours
