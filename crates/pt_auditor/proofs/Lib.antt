-- The lemmas that more than one function of the crate uses.
pub mod Laid
pub mod Carried
pub mod Sighted
pub mod Origins
pub mod Heard
pub mod Lengths
pub mod Read
pub mod Rested
pub mod Resting
pub mod Reread
pub mod Changing
