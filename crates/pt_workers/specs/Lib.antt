pub mod Desks
pub mod Running
pub mod Stillness
pub mod Looking
pub mod NodeRunning
pub mod Taking
pub mod Waking
