pub mod PfdContentsImage
