pub mod Said
pub mod Walking
pub mod Evaluating
pub mod Filling
