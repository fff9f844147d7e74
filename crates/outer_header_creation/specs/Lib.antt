pub mod OuterHeaderCreation
pub mod Steps
