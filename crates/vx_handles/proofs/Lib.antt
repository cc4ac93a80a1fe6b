pub mod Keys
pub mod Slots
pub mod Kept
pub mod Found
