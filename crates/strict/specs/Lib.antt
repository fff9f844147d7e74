pub mod Strict
pub mod Samples
