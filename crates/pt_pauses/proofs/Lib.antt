-- The lemmas that more than one function of the crate uses.
pub mod Before
pub mod Homes
pub mod Opened
pub mod Ended
pub mod Trapping
pub mod Stopping
pub mod Still
pub mod AllLive
pub mod Receipts
pub mod Resuming
pub mod Pausing
pub mod Going
pub mod Passing
pub mod Settling
pub mod Halting
pub mod Staying
