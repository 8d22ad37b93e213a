pub mod StartLaws
pub mod CheckLaws
pub mod ChainLaws
pub mod AppendLaws
pub mod CountLaws
pub mod UndoLaws
