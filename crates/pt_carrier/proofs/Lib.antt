-- The lemmas that more than one function of the crate uses.
pub mod Lists
pub mod Places
pub mod Collecting
pub mod Making
pub mod Meeting
pub mod Rooms
pub mod Taking
pub mod Posting
mod Halves
mod Through
