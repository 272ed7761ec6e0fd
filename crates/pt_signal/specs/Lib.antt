pub mod Values
pub mod Process
pub mod Text
pub mod Settings
pub mod Boxes
