pub mod Reading
pub mod Members
pub mod Lists
pub mod Times
pub mod Values
