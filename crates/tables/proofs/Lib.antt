pub mod LeastLaws
pub mod StepLaws
pub mod PowerLaws
pub mod PeriodLaws
pub mod FirstLaws
pub mod TableLaws
pub mod WalkLaws
