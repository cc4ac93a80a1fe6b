pub mod Listed
pub mod Kept
pub mod Spare
pub mod Facts
pub mod Rising
pub mod Leaving
pub mod Backwards
