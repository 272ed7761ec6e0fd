-- Order: what is in flight, what came, what was taken.
pub mod Each
pub mod Filters
pub mod Positions
pub mod Flight
pub mod Sender
pub mod Taken
pub mod Asking
pub mod Answered
