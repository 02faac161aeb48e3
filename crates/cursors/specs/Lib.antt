pub mod Ended
pub mod Going
