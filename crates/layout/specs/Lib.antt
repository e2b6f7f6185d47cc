pub mod PointBlock
pub mod Clocks
pub mod Image
pub mod Messages
pub mod Calls
pub mod Listing
