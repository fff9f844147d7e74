pub mod Returns
pub mod Written
pub mod Meant
pub mod Answers
pub mod Building
pub mod OfKind
