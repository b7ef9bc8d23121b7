pub mod Three
pub mod Tops
pub mod Owned
pub mod Law
