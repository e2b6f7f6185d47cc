pub mod Points
pub mod Loops
pub mod LaidOut
pub mod Formed
