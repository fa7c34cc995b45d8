pub mod FindLaws
pub mod FrameLaws
pub mod SpanLaws
pub mod EndLaws
pub mod BetweenLaws
pub mod PartLaws
