pub mod Written
pub mod Standing
pub mod Moved
pub mod Reading
