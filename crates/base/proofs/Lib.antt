pub mod Cases
pub mod ListLaws
pub mod JudgeLaws
pub mod XorLaws
pub mod RefusalLaws
