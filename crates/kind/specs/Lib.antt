pub mod Layout
pub mod Kind
pub mod Write
pub mod Demand3
pub mod Promise
