pub mod Entries
pub mod Same
pub mod Started
pub mod Every
pub mod Nodes
pub mod Counts
pub mod Written
pub mod Chosen
