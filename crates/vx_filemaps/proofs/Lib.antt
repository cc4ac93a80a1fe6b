pub mod Free
mod Placing
pub mod Pages
mod Gone
mod Gives
mod Runs
mod Settled
mod InSpace
mod Loads
