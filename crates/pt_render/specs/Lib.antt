pub mod Json
pub mod Mermaid
pub mod Pages
pub mod Progress
pub mod Steps
