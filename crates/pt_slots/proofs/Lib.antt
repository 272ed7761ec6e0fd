-- The lemmas that more than one function of the crate uses.
pub mod Changes
pub mod Counts
pub mod Offers
pub mod Steps
pub mod Taken
