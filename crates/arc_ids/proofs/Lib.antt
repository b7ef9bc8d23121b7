pub mod Uuids
