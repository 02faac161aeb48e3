pub mod Decoded
pub mod Planning
pub mod Entries
pub mod Compact
pub mod Raised
pub mod Initials
pub mod Cases
