-- The lemmas that more than one function of the crate uses.
pub mod Legs
pub mod Attending
pub mod Whole
pub mod Passing
pub mod Stages
pub mod Idling
pub mod Again
pub mod Pausing
pub mod Driving
pub mod Bringing
