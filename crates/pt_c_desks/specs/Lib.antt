pub mod Answers
pub mod InOrder
pub mod Reading
pub mod QuietNodes
pub mod Losing
pub mod Waking
pub mod Letters
