pub mod Levels
pub mod Told
pub mod DueLaws
pub mod Wanting
