pub mod Pasts
pub mod Opening
pub mod Resuming
pub mod Gathering
pub mod Seating
pub mod Node
pub mod Lending
pub mod Load
