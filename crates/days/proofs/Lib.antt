pub mod Computed
pub mod Tests
pub mod Days
pub mod Mistakes
