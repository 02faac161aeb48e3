pub mod Guiding
pub mod Rows
pub mod Looking
pub mod Trying
pub mod Expanding
pub mod Starting
pub mod Reporting
pub mod Noting
