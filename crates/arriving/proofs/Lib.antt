pub mod Trying
pub mod Folding
pub mod Arrivals
pub mod OfPoints
pub mod RowPut
pub mod Rows
pub mod Merged
