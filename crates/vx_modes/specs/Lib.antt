pub mod Words
pub mod Parse
pub mod Policy
