pub mod Planning
pub mod Results
