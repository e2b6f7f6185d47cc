pub mod Marks
pub mod Raising
pub mod Known
pub mod Dropping
pub mod Tidied
