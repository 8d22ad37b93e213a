pub mod Records
pub mod Example
