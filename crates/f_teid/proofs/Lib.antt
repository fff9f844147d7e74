pub mod Laws
pub mod OfKind
pub mod Ready
pub mod Returns
