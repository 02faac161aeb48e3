pub mod Windows
pub mod Reading
pub mod Marking
pub mod Filling
pub mod Moving
pub mod Keeping
pub mod Surveying
