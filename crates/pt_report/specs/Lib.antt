pub mod Called
pub mod Epochs
pub mod Lines
pub mod Notes
pub mod Reports
pub mod Status
pub mod Summaries
pub mod Words
