pub mod Ending
pub mod Hearing
pub mod Joining
pub mod Supervising
pub mod Keeping
pub mod Changed
pub mod Staying
