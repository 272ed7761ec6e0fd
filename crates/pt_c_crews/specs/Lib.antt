pub mod Crossing
pub mod GoingOn
pub mod Owning
pub mod Crewing
pub mod Through
pub mod Children
pub mod NodeGoingOn
