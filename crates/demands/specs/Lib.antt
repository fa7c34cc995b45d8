pub mod Demand2
pub mod Demand3
pub mod NarrowFirst
pub mod Plain
pub mod CrcAlone
pub mod FewerPositions
pub mod Worked
