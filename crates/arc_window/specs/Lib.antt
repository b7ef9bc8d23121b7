pub mod Digits
pub mod Date
pub mod Weekly
pub mod Blocked
