pub mod Scans
pub mod Finds
