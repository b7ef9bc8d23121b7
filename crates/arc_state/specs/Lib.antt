pub mod Room
pub mod Standing
pub mod State
pub mod Reading
pub mod Outside
pub mod Listing
pub mod Told
