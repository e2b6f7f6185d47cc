pub mod Fields
pub mod Check
pub mod Block
pub mod Kind
