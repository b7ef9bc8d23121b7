pub mod Numbers
pub mod Texts
pub mod Split
pub mod Lists
pub mod Marks
pub mod Failing
pub mod Places
pub mod Spelled
