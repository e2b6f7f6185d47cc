pub mod Order
pub mod Count
