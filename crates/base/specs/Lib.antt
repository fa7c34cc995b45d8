pub mod Refusals
pub mod Outcome
pub mod Answers
pub mod Lists
pub mod Judged
