pub mod CancelLaws
pub mod DivideLaws
pub mod RegisterLaws
pub mod CcittLaws
