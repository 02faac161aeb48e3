pub mod Content
pub mod Written
