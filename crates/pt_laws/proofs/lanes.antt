-- Lanes and merges: journals that agree, the load, the headline.
pub mod Lanes
pub mod Newest
pub mod Heading
pub mod OneMerge
pub mod Gathering
pub mod Load
pub mod Emptied
pub mod Settled
