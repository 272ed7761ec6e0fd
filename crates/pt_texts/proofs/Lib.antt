-- The lemmas that more than one function of the crate uses.
pub mod OneMore
pub mod Pieces
pub mod Decimals
pub mod Signed
pub mod Printed
pub mod Told
pub mod Parsed
pub mod Recorded
