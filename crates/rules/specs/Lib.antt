pub mod Standing
pub mod Readers
