mod SameLaws
pub mod CountLaws
pub mod TrialLaws
mod RunLaws
pub mod RowLaws
