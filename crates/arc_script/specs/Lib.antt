pub mod Steps
pub mod Chain
pub mod Words
pub mod Lists
pub mod Configs
pub mod Grammar
pub mod Reading
pub mod Spelling
