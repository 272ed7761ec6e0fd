pub mod Quieting
pub mod Schedulers
pub mod Here
