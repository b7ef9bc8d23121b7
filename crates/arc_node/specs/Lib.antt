pub mod Node
pub mod Handling
pub mod Starting
pub mod Calls
pub mod Appending
pub mod Keeping
pub mod Comparing
pub mod Totals
