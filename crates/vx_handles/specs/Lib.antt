pub mod OpenHandles
pub mod Codes
