pub mod Fields
pub mod Asked
pub mod Reading
pub mod Seen
pub mod Laws
pub mod Response
pub mod Sizes
