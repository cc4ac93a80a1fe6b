pub mod Lines
pub mod Tracks
pub mod Mounts
pub mod Works
pub mod Rooms
pub mod Faults
pub mod Facts
