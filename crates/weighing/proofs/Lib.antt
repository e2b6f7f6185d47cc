pub mod Contexts
pub mod Takings
pub mod Judging
