pub mod Rising
pub mod Entries
pub mod Lists
pub mod Fitting
pub mod Moves
pub mod Calling
pub mod Seating
pub mod Meeting
