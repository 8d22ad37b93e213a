pub mod EntriesLaws
pub mod PrintedLaws
