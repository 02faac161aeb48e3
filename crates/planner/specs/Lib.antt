pub mod Numbers
pub mod Causes
pub mod Answers
pub mod Reports
pub mod Sizes
