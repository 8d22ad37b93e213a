pub mod Packed
pub mod Promises
