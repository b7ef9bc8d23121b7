pub mod Runs
pub mod Layout
pub mod Torn
pub mod Bodies
pub mod Faults
pub mod Image
pub mod Views
pub mod Journal
