pub mod Links
pub mod Heights
pub mod Paths
pub mod Levels
