pub mod Words
pub mod Numbers
pub mod Dot
pub mod Key
