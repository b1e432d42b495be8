pub mod Packed
pub mod Coded
pub mod Lending
pub mod LeafBytes
pub mod Leaves
pub mod Tags
