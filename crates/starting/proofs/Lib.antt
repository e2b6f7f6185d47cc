pub mod Fresh
pub mod Starting
