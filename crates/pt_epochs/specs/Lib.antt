pub mod Idle
pub mod Epochs
pub mod Running
pub mod Driving
pub mod Watching
pub mod Bringing
pub mod Views
pub mod Timing
