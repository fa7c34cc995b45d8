pub mod Conditions
pub mod Calls
pub mod Sequences
