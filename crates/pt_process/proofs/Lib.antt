-- The lemmas that more than one function of the crate uses.
pub mod PlaceLemmas
pub mod MarkLemmas
pub mod LinkLemmas
pub mod WatchLemmas
pub mod StateLemmas
pub mod EstateLemmas
pub mod ExitLemmas
