-- The lemmas that more than one function of the crate uses.
pub mod Same
pub mod Lists
pub mod Boxes
