pub mod Scans
pub mod Words
pub mod Finds
pub mod Counts
pub mod Chunks
pub mod Rows
