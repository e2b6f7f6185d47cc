pub mod Choosing
pub mod Looking
pub mod Placing
pub mod Rounds
