pub mod UeIpAddressImage
