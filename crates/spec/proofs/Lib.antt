pub mod Computing
pub mod Worked
