pub mod Down
pub mod Height
pub mod Work
