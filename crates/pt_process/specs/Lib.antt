pub mod ProcessView
pub mod Outcome
pub mod Exits
pub mod Places
pub mod Peers
pub mod Marks
