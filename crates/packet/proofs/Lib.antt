pub mod PacketLaws
pub mod FlipLaws
pub mod DifferenceLaws
pub mod ReadLaws
pub mod RemainderLaws
