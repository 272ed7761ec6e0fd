-- The lemmas that more than one function of the crate uses.
pub mod Quieting
pub mod Scheduling
pub mod Staying
