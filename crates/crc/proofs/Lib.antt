pub mod AddLaws
pub mod SealLaws
