pub mod RowAhead
pub mod Judging
pub mod Choosing
pub mod Lacking
pub mod Sending
pub mod Whole
