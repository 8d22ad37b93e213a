pub mod Answers
pub mod Delivery
