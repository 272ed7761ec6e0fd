-- The lemmas that more than one function of the crate uses.
pub mod InCrew
pub mod AlongRow
mod Handles
pub mod Through
pub mod Asking
pub mod NodeGoingOn
