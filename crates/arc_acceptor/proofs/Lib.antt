pub mod Ends
pub mod Equality
pub mod Outcomes
