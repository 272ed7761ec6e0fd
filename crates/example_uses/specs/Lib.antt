pub mod Doing
pub mod Exchanges
pub mod Games
pub mod Payloads
pub mod Telling
pub mod Epochs
pub mod Rings
pub mod Quiet
