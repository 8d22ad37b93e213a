pub mod EndCodes
pub mod Found
pub mod ArraysLaws
pub mod WriterLaws
pub mod Start
