-- The lemmas that more than one function of the crate uses.
pub mod LineIn
pub mod LineByLine
pub mod OneMore
pub mod Splitting
