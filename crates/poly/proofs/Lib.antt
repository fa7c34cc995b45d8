pub mod FoldLaws
pub mod ProductLaws
pub mod DivisionLaws
pub mod ParityLaws
pub mod BackLaws
pub mod DegreeLaws
pub mod GeneratorLaws
pub mod NewLaws
