pub mod Bytes
pub mod Records
pub mod Lowest
pub mod Table
pub mod Some
pub mod Placeholders
pub mod Mask
pub mod Laid
