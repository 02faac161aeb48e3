pub mod Rules
pub mod Truth
pub mod Names
pub mod Sets
pub mod Programs
pub mod Formulas
