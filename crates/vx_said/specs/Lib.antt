pub mod Plain
pub mod SaidState
pub mod WholePages
pub mod SaidFiles
