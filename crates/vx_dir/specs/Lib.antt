pub mod Directories
pub mod Index
pub mod Sizes
