-- The lemmas that more than one function of the crate uses.
pub mod Waking
pub mod AlongRow
mod Handles
mod Posting
