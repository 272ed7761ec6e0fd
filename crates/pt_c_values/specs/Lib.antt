pub mod Held
pub mod Places
pub mod Filling
pub mod Crossing
pub mod Codes
pub mod Samples
