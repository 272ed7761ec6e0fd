-- The lemmas that more than one function of the crate uses.
pub mod Judge
pub mod Filed
pub mod FirstPlaces
pub mod Lives
pub mod KeptNext
pub mod Starting
pub mod SameValues
pub mod Judged
pub mod Queued
pub mod Trial
pub mod Race
pub mod MergeStep
