pub mod Ballots
pub mod Counting
pub mod Highest
pub mod Proposing
pub mod Laws
