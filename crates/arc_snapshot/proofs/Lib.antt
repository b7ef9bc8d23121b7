pub mod Begins
pub mod Steps
pub mod Recording
pub mod Adding
