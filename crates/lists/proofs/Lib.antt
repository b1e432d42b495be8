-- Lemmas on lists.
pub mod Replaced
