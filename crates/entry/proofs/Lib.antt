pub mod Agreeing
pub mod Judging
