-- The lemmas that more than one function of the crate uses.
mod Appending
mod OneByOne
