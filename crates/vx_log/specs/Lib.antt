pub mod Batches
pub mod Writes
pub mod Logs
pub mod Crashes
pub mod Stages
pub mod Ends
pub mod NoteLaws
pub mod OrderLaws
