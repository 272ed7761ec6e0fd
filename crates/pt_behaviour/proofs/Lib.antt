-- The lemmas that more than one function of the crate uses, and those for the crates above it.
pub mod Cases
pub mod Telling
pub mod Takes
pub mod Newborn
pub mod Bearing
pub mod Upholding
