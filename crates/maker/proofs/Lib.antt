pub mod StreamLaws
pub mod MadeLaws
