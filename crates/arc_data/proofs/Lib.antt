pub mod Keys
pub mod Zones
pub mod Promises
pub mod Apart
