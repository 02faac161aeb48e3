pub mod Ending
pub mod Pointing
pub mod Laying
pub mod Going
