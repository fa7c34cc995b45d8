pub mod Trials
pub mod Running
