pub mod Words
pub mod InMemory
