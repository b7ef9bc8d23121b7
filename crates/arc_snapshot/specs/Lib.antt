pub mod After
pub mod Record
pub mod Rule
pub mod Reading
pub mod Seats
pub mod Version
pub mod Writing
