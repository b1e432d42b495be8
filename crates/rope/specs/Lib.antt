pub mod Sided
pub mod Building
pub mod Merging
pub mod Cutting
