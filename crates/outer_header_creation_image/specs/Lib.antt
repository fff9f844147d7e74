pub mod OuterHeaderCreationImage
pub mod Steps
