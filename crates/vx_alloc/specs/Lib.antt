pub mod FreeMaps
pub mod RunIndexes
