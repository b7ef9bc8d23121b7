pub mod Moments
pub mod Events
pub mod Logging
pub mod Filled
pub mod Elapsing
pub mod Calling
pub mod Writing
pub mod Settling
