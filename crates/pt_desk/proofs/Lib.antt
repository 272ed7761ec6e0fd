-- The lemmas that more than one function of the crate uses.
pub mod Letters
pub mod Accounts
pub mod Posted
pub mod Turning
pub mod Calling
pub mod Ending
pub mod Deaths
pub mod Before
pub mod Seating
mod Own
mod Owning
mod Looking
mod Telling
mod Forgetful
