pub mod Eight
pub mod Carrying
pub mod Slots
pub mod Arriving
pub mod Judging
pub mod Merged
pub mod Whole
pub mod Clashing
