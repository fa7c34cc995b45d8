pub mod RecordLaws
pub mod PageLaws
pub mod SequenceLaws
