pub mod NetRecords
pub mod NetHead
