pub mod HeadGood
pub mod HeadParts
pub mod HeadEdits
