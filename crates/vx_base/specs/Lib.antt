pub mod Fits
pub mod Faults
pub mod Lines
pub mod Paths
pub mod Rules
pub mod Streams
