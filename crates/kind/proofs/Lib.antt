pub mod Laws
pub mod Rows
pub mod Demand3
pub mod Promise
pub mod Fixed
pub mod Cases
pub mod Endpoint
