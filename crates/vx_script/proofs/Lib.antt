pub mod Pieces
mod OutputLaws
