pub mod Ascii
pub mod Fixed
pub mod Refusals
pub mod Texted
