pub mod StagesLaws
pub mod Examining
