pub mod ListedLaws
pub mod MarkedLaws
