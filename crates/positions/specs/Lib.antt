pub mod Spots
pub mod Rising
pub mod Levels
pub mod Found
pub mod Read
pub mod Placed
