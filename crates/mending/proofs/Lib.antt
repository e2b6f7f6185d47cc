pub mod Marked
pub mod OfPoint
pub mod Passing
