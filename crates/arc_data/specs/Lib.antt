pub mod Valid
pub mod Entries
pub mod States
