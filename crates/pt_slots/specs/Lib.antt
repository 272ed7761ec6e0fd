pub mod State
pub mod Calls
pub mod Offers
pub mod Taken
pub mod Keys
pub mod Lends
pub mod Sound
pub mod Grows
