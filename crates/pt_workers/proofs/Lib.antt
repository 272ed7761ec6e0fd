-- The lemmas that more than one function of the crate uses.
pub mod Begun
pub mod GoingOn
pub mod StillDesks
pub mod Rounding
pub mod Idle
pub mod Burning
pub mod TurnsOf
pub mod Meeting
pub mod AtRest
pub mod Laned
pub mod Waiting
pub mod Unread
pub mod Reached
