pub mod Tables
pub mod Extending
