pub mod Held
pub mod Evaluated
