pub mod BlockMaps
pub mod Elsewhere
