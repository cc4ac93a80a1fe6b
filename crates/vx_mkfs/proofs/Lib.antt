pub mod BitLaws
pub mod Formatted
