pub mod Steps
pub mod OfOne
pub mod Ready
