pub mod Output
pub mod Certified
