pub mod Written
pub mod Possible
