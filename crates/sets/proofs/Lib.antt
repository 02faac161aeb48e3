pub mod Bits
pub mod Members
pub mod Empty
pub mod Tables
pub mod Values
