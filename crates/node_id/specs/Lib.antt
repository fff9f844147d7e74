pub mod NodeId
pub mod Steps
