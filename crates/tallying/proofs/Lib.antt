pub mod OfPoint
pub mod Tally
pub mod Judged
