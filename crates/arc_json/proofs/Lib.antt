pub mod Floats
pub mod Apart
pub mod Texts
pub mod Told
