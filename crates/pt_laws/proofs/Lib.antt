-- The lemmas that more than one function of the crate uses.
pub mod Merged
pub mod Sums
pub mod DeskLoads
pub mod linking
pub mod monitoring
pub mod living
pub mod order
pub mod lanes
pub mod Firsts
pub mod Renamed
