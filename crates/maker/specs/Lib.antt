pub mod Stream
pub mod Calls
