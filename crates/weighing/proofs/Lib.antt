pub mod WeightLaws
pub mod WeighedLaws
