-- The lemmas that more than one function of the crate uses.
pub mod Boxes
mod Ledgers
mod Frames
mod Births
mod Fresh
mod Near
mod Endings
mod Removals
mod Keeps
mod Acting
mod Lent
mod Receiving
mod Outcomes
mod Bearing
mod Standing
mod Left
mod Restarting
mod Forgetful
mod InTurn
mod Acted
mod Taken
mod Vacancy
mod Noting
mod Living
mod Counted
mod Listed
mod Losing
