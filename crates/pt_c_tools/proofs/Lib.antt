-- The lemmas that more than one function of the crate uses.
mod Handles
pub mod Handing
mod EmptyPlaces
mod Told
pub mod Joining
pub mod FirstStages
