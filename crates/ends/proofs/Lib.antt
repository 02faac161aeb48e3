pub mod Asking
pub mod Tabled
pub mod Parts
pub mod Endings
