pub mod Asking
pub mod Replying
pub mod TakingIn
pub mod Repairing
