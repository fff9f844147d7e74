pub mod FteidImage
