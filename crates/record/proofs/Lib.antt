pub mod Reading
pub mod Walk
pub mod LaidOut
pub mod Formed
pub mod Chains
pub mod Questions
