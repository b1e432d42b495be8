pub mod Padded
pub mod Counted
