pub mod Behaving
pub mod Births
pub mod Telling
pub mod Upholding
