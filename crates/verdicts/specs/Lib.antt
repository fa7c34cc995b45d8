pub mod Verdicts
pub mod Settling
