pub mod Agree
pub mod Table
pub mod Laws
pub mod Longest
pub mod Parts
pub mod Broken
pub mod Kept
pub mod Examples
