-- The lemmas that more than one function of the crate uses.
pub mod Nothing
pub mod Places
pub mod Told
pub mod Ends
pub mod Listing
pub mod MayObserve
pub mod Counted
pub mod Forgetting
pub mod ToForget
pub mod Walking
pub mod SlotLives
pub mod Reading
pub mod NodePids
