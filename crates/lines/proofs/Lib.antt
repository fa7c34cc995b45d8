pub mod DecimalLaws
pub mod StoreLaws
pub mod WritingLaws
pub mod RecordLaws
