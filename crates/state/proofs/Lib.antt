pub mod Truths
pub mod Noting
pub mod Excluding
pub mod Performed
pub mod Giving
