pub mod Puts
pub mod Pages
pub mod Decimal
pub mod Parts
pub mod Lines
