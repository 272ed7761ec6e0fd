pub mod Filing
pub mod Judging
pub mod Judge
pub mod Places
pub mod Text
pub mod Merging
pub mod Race
