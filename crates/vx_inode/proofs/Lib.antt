pub mod SlotLaws
pub mod Counts
pub mod Kept
pub mod Lowest
pub mod Stored
