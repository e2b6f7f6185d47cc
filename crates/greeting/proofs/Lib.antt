pub mod Stores
pub mod Laid
pub mod Formed
