pub mod Named
pub mod Below
pub mod Tables
