-- The lemmas that more than one function uses, here or in the crates above.
pub mod Cases
pub mod Limiting
pub mod Wanting
pub mod Tying
pub mod Telling
pub mod Hearing
pub mod Refusing
mod Spanning
mod Knowing
