pub mod RankLaws
pub mod CopyLaws
pub mod Repaired
