pub mod Patient
