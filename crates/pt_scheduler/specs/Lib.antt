-- Plans of supervisors, what a member is and answers, the reasons of exits, and what a scheduler does.
pub mod Planning
pub mod Exits
pub mod Members
pub mod Scheduling
pub mod Taken
pub mod Owning
pub mod Asking
pub mod Out
