pub mod NodeIdImage
