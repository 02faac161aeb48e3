pub mod Tables
pub mod Ruled
pub mod Told
