pub mod Lists
pub mod Laid
pub mod Entry
pub mod Good
pub mod Search
pub mod Edits
pub mod Placing
