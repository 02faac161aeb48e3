pub mod Rest
pub mod Leaves
pub mod Extended
