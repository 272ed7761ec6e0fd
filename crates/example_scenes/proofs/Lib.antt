-- The lemmas of the scenes `team` and `shifts`.
pub mod Staffing
pub mod Booking
