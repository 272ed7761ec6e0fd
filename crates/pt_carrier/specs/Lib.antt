pub mod Lanes
pub mod Ends
pub mod Node
pub mod Opening
pub mod Meeting
pub mod Reunion
pub mod Bypass
