-- Monitors: how often each is made, kept and answered.
pub mod WatchesSince
pub mod MadeOnce
pub mod Counts
pub mod Downs
pub mod Keeping
pub mod Watching
pub mod Monitors
pub mod Quiet
pub mod MadeBefore
