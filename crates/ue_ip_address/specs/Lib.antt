pub mod UeIpAddress
