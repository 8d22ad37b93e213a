pub mod CodesLaws
pub mod TraceLaws
pub mod Ends
pub mod UndoSet
