pub mod PrintedLaws
pub mod PrintedRows
pub mod TurnLaws
