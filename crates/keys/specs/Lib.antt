pub mod Packed
pub mod Keyed
