pub mod Codes
pub mod Trace
