pub mod Outcome
pub mod Moves
pub mod Searching
