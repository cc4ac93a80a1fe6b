pub mod Attributes
pub mod Slots
pub mod Tables
pub mod Codes
