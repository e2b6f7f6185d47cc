pub mod Looking
pub mod Ahead
pub mod Clashes
pub mod Otherwise
pub mod AtHome
pub mod HomeLent
pub mod Judging
pub mod Accepted
