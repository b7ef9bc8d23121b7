pub mod History
pub mod Rule
pub mod Steps
pub mod Known
pub mod Passes
pub mod Holding
