pub mod Still
pub mod Stopping
pub mod Gathering
pub mod Pauses
pub mod Halts
pub mod Here
