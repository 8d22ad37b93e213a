pub mod Answers
pub mod Visits
