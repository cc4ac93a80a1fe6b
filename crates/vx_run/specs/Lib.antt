pub mod Words
pub mod Reads
pub mod Mounted
pub mod Ends
pub mod Memories
pub mod Outcomes
