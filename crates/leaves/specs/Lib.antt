pub mod Tallies
pub mod Running
pub mod Endable
pub mod Distances
pub mod Performed
