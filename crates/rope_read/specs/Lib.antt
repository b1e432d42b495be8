pub mod Text
pub mod Reading
pub mod Locating
pub mod Ranges
pub mod Finding
