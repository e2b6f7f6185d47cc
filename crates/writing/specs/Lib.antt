pub mod Judged
pub mod Recorded
pub mod LeftBy
