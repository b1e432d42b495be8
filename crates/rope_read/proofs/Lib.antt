pub mod Texts
pub mod Descents
pub mod Spots
pub mod Spans
pub mod Finds
