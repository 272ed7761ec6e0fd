pub mod Steps
pub mod Numbers
pub mod Readers
pub mod Fits
pub mod Text
pub mod Parsing
pub mod Laws
