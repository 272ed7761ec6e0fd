-- Lives: births, ends, flags, and histories that go on from others.
pub mod Acts
pub mod Since
pub mod BirthsAndEnds
pub mod AfterEnd
pub mod Resumed
pub mod StartAfter
pub mod Twice
pub mod NewIds
