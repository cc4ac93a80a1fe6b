pub mod Puts
pub mod Words
pub mod Text
pub mod Output
pub mod Start
