-- The lemmas that more than one function of the crate uses.
pub mod Exits
pub mod Begins
pub mod Noting
pub mod Coming
pub mod Pulls
pub mod Filling
pub mod Upheld
pub mod Becoming
pub mod Asking
pub mod Idle
pub mod Keeping
