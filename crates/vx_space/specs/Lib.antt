pub mod Outcome
pub mod Placement
pub mod Space
pub mod Placing
pub mod Leaving
pub mod Uses
pub mod Laws
pub mod Rows
