-- Links: which ids a process holds, and that both ends agree once all is quiet.
pub mod LinksSince
pub mod Entries
pub mod Holding
pub mod Ties
pub mod Takings
pub mod Sides
pub mod Bonds
pub mod Between
pub mod Linked
pub mod Agreed
