pub mod Limits
pub mod Kinds
pub mod Bytes
pub mod Layout
