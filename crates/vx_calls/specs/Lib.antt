pub mod Mounts
pub mod Calls
pub mod Potentials
