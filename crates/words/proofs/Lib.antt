pub mod Padding
pub mod Bounds
