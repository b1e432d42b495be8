pub mod Holding
pub mod Balance
