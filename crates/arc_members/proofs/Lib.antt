pub mod Items
pub mod Steps
pub mod Numbers
pub mod Dates
pub mod Windows
