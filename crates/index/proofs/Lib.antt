pub mod Content
pub mod Listed
pub mod Changed
pub mod Rounds
pub mod Keeping
