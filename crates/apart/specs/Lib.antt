pub mod Apart
pub mod Marks
