pub mod Pages
pub mod Indexes
pub mod Slots
pub mod Codes
pub mod Lending
