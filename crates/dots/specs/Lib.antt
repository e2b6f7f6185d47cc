pub mod Lists
pub mod DotsGood
pub mod Entries
pub mod DotsBlock
