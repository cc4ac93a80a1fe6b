pub mod Ending
mod Numbers
pub mod Taking
