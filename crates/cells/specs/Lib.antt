pub mod Layout
pub mod Tree
pub mod Sound
pub mod Have
pub mod Steps
pub mod Theorems
