pub mod Laid
pub mod Stepped
