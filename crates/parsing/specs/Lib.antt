pub mod Input
pub mod Parsing
