-- The lemmas that more than one function of the crate uses.
pub mod Steps
pub mod Local
pub mod Phases
pub mod Homes
pub mod Fields
pub mod Telling
pub mod Orders
pub mod InOrder
pub mod Since
pub mod Agreeing
pub mod Refusals
pub mod Leaving
pub mod Forgetting
pub mod Handling
