pub mod Records
pub mod Pages
pub mod Sequences
pub mod Slices
