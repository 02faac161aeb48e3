pub mod Read
pub mod Told
pub mod Listing
pub mod Filling
pub mod Ruling
