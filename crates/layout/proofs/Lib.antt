pub mod PointBack
pub mod ImageBack
pub mod MessagesBack
pub mod Sizes
pub mod CallsGood
pub mod Vectors
pub mod Decoded
