-- The lemmas that more than one function of the crate uses.
pub mod Values
pub mod Handles
pub mod Empty
pub mod Walks
pub mod InRow
pub mod AlongRow
pub mod Sending
