pub mod Fields
pub mod HeadLaws
