pub mod Blocks
pub mod Calls
pub mod Losses
pub mod Steps
