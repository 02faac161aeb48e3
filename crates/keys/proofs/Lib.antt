pub mod Joined
pub mod Written
pub mod Unpacked
pub mod Same
