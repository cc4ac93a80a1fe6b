pub mod Faults
pub mod Sounds
pub mod Volumes
pub mod Readings
pub mod Owners
pub mod Decoding
pub mod Alike
