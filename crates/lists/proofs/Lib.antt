pub mod BoolLaws
pub mod SearchLaws
pub mod TablesLaws
pub mod MemberLaws
pub mod SuffixLaws
