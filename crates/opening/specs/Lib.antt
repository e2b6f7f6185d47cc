pub mod Admitted
pub mod CallContracts
