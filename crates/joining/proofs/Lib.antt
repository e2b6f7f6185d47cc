pub mod MergedAt
pub mod RowsSet
pub mod Putting
pub mod Noted
pub mod May
