pub mod Effects
pub mod Numbered
pub mod Worlds
pub mod Exclusive
pub mod Straying
pub mod Removing
pub mod Allowed
