pub mod Slices
pub mod Follows
pub mod Replaces
pub mod Shares
pub mod Builds
pub mod Copies
pub mod Repeats
