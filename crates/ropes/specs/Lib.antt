-- Ropes as values, from the values up to what holds of them.
pub mod Rope
pub mod Join
pub mod Cut
pub mod Build
pub mod Layout
pub mod Costs
pub mod Laws
