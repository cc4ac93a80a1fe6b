pub mod Filling
pub mod Standing
pub mod Sizes
pub mod Lists
pub mod Numbers
pub mod Supers
pub mod LogSpelling
