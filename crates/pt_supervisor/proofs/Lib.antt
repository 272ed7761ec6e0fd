-- The lemmas that more than one function of the crate uses.
pub mod Starting
pub mod Ending
pub mod Due
pub mod Families
pub mod Changing
pub mod Asking
pub mod Advancing
pub mod Joining
pub mod Tending
pub mod Bearing
pub mod Counted
pub mod Staying
