pub mod Chain
pub mod RecordLaws
pub mod Pass
