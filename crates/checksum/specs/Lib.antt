pub mod Checksum
pub mod Calls
pub mod Shares
