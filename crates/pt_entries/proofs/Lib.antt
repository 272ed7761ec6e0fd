-- The lemmas that more than one function of the crate uses.
pub mod MapLemmas
pub mod FewLemmas
pub mod GapLemmas
