pub mod Holdings
pub mod Balances
