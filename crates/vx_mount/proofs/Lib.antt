pub mod Stepping
pub mod Going
pub mod Growing
pub mod Taking
pub mod Single
