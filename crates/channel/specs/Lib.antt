pub mod Channel
pub mod Taking
