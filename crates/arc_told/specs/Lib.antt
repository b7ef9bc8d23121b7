pub mod Report
pub mod View
pub mod Noted
pub mod Moves
pub mod Run
pub mod Parts
pub mod Obeying
pub mod Told
