pub mod Names
pub mod Plainness
pub mod Listing
pub mod Refusing
