pub mod ConditionLaws
pub mod PageTheorem
pub mod SequenceTheorem
