pub mod Fteid
pub mod Builder
