pub mod Points
pub mod Judging
pub mod Filled
pub mod Accepted
