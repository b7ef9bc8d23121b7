pub mod Kept
pub mod Searched
