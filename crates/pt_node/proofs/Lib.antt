-- The lemmas that more than one function of the crate uses.
pub mod Together
pub mod TrueReads
pub mod SeatsOf
pub mod Ended
pub mod Tables
pub mod Prepared
pub mod Resumed
pub mod Wholes
pub mod Fresh
pub mod Pasts
mod Walked
pub mod Forgetful
pub mod Calling
pub mod RoundByRound
pub mod Leftless
pub mod Weighing
pub mod Receiving
pub mod Bounding
pub mod Ready
pub mod Keeping
pub mod FreshSeat
pub mod OnTheWay
pub mod Turning
pub mod Moving
pub mod Handling
pub mod Gatherable
