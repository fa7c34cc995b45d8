pub mod RuleLaws
pub mod GatherLaws
