pub mod Decimal
pub mod Text
pub mod Writing
