-- The lemmas that more than one function of the crate uses.
pub mod Calling
pub mod Doings
pub mod Retained
pub mod Exchanged
pub mod Written
pub mod Archiving
pub mod Quieted
