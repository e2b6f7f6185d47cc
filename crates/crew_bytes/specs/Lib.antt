pub mod Bytes
pub mod DemandBytes
