pub mod Blocks
pub mod Moved
pub mod Opening
pub mod Closing
pub mod Lifting
pub mod Fetching
