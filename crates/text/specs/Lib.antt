pub mod Utf8
pub mod Meaning
pub mod Steps
