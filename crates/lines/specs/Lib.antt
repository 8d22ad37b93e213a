pub mod AnswerLines
pub mod Counting
pub mod Reports
