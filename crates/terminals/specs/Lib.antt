pub mod Sequences
pub mod Drawing
pub mod Progress
pub mod Painting
