pub mod ChooseLaws
pub mod HeadLaws
pub mod NearestLaws
pub mod TailLaws
