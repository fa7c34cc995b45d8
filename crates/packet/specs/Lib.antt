pub mod Packet
pub mod Reading
