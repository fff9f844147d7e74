pub mod Laws
pub mod OfKind
pub mod Returns
