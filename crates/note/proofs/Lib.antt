pub mod Steps
pub mod NoteLaws
