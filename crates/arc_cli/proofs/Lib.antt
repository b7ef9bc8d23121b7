pub mod Numbers
pub mod Positional
