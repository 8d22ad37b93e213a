pub mod Answers
pub mod Heads
