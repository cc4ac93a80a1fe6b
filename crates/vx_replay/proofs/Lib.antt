pub mod LogReading
pub mod Reread
pub mod Steps
pub mod Marks
mod TailMoves
mod Elsewhere
pub mod Loading
pub mod BadReads
pub mod Accepting
pub mod Recovering
mod ImageChecking
