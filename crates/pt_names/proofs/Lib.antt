-- The lemmas that more than one function of the crate uses.
pub mod Sound
pub mod Naming
pub mod Grouped
pub mod Sending
pub mod Fitting
pub mod Ends
pub mod Ringing
