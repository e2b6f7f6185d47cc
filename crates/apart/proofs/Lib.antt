pub mod Versions
pub mod Marking
pub mod Lent
pub mod Earlier
