mod TakingLaws
mod MovedLaws
pub mod DrawLaws
