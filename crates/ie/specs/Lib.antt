pub mod Ie
pub mod Laws
pub mod Steps
