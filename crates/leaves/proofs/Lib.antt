pub mod Seen
pub mod Filling
pub mod Entries
pub mod Skipping
pub mod Marking
pub mod Measuring
