pub mod LookupLaws
pub mod AheadLaws
