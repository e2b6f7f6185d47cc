pub mod OfReply
pub mod Passes
pub mod Merges
pub mod Made
pub mod Steps
