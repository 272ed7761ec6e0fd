pub mod Gaps
pub mod Held
