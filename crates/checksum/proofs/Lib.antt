pub mod SumLaws
pub mod RangeLaws
pub mod ConditionLaws
pub mod StampLaws
