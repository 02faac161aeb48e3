pub mod Truths
pub mod Ranges
pub mod Conflicts
pub mod Exclusion
pub mod Evaluated
pub mod Reads
