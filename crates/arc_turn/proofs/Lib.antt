pub mod Begins
pub mod Seats
pub mod Moves
