pub mod LookUp
pub mod Causes
