pub mod Files
pub mod FileMaps
pub mod Loads
pub mod Settles
pub mod GiveLaws
pub mod RunLaws
