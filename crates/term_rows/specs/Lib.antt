pub mod Cells
pub mod Lent
pub mod Shortest
