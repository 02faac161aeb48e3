pub mod Histories
pub mod Asking
pub mod Deepened
pub mod Settled
pub mod Told
