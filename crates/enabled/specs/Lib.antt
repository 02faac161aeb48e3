pub mod Spans
pub mod Enabled
pub mod Filled
