pub mod Packings
pub mod Codes
