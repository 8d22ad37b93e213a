pub mod History
pub mod Rules
pub mod Undo
pub mod Net
