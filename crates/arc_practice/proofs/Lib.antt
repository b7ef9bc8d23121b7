pub mod Canceled
pub mod Changed
pub mod Kept
