pub mod Known
pub mod Commit
