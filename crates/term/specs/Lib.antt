pub mod Scene
pub mod Says
