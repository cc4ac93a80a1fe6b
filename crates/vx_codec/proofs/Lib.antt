pub mod Lengths
pub mod Entries
pub mod Bitmaps
pub mod DirLaws
pub mod InodeLaws
pub mod MapLaws
pub mod BitLaws
