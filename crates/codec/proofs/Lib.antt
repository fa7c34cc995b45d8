pub mod MarkByteLaws
pub mod VerdictLaws
