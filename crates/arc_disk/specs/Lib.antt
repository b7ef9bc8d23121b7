pub mod Disk
pub mod Calls
pub mod Past
pub mod Laws
pub mod History
pub mod Schedule
pub mod MemoryDisk
