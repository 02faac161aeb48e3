pub mod Notes
pub mod Exactly
