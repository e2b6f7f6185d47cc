pub mod Sweeping
pub mod Dropping
pub mod Entries
pub mod Asking
pub mod Counting
pub mod Going
pub mod Given
pub mod VersionPlaces
