pub mod VerdictLaws
pub mod SentLaws
