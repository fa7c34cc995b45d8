pub mod Codes
pub mod Pages
pub mod Repairs
