pub mod BytesLaws
pub mod LayoutLaws
pub mod Twos
