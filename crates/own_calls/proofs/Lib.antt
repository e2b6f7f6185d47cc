pub mod Reading
pub mod StripPass
pub mod Writing
