pub mod Reading
pub mod Scripts
pub mod Mounting
pub mod Owning
pub mod Finishing
pub mod Founding
pub mod Imaging
