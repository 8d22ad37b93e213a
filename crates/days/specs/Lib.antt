pub mod Journals
pub mod Days
pub mod Mistakes
