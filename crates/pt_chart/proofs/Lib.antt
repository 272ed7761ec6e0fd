-- The lemmas that more than one function of the crate uses.
pub mod Tracing
pub mod Arrows
pub mod Rows
pub mod Rowing
pub mod Arrivals
pub mod Answering
pub mod Legal
pub mod Numbering
pub mod Writing
pub mod Calling
pub mod Mentioning
pub mod Desks
pub mod Naming
