pub mod PfdContents
pub mod Steps
pub mod Builder
