pub mod Final
