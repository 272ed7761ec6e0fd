-- The lemmas that more than one function of the crate uses.
pub mod Lists
pub mod Loads
pub mod Stores
pub mod SeatSteps
pub mod Words
pub mod Reopening
pub mod Late
