pub mod Runs
pub mod Reading
pub mod Stores
pub mod Meant
pub mod Adding
pub mod Carry
