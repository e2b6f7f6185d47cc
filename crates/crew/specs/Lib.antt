pub mod Moment
pub mod Run
pub mod Demand
