pub mod Acting
pub mod Making
pub mod Numbers
pub mod Runnable
pub mod Starting
pub mod Stepping
pub mod Truth
pub mod Waiting
