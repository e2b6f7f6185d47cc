pub mod Tests
pub mod Lists
pub mod Controllers
pub mod Orders
pub mod Dots
