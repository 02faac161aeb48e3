pub mod Demands
pub mod Alike
pub mod Reported
pub mod Exactly
