pub mod Queries
pub mod Results
