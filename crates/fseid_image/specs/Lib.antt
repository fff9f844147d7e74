pub mod FseidImage
