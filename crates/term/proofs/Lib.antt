pub mod Scenes
pub mod Upper
pub mod Sequels
pub mod Paints
