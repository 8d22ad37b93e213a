pub mod Recent
pub mod Arrays
pub mod Ends
pub mod Past
pub mod Writers
