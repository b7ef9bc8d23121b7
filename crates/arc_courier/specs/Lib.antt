pub mod Courier
pub mod Scripted
