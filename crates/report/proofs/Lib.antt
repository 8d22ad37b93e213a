pub mod SumLaws
pub mod ReportLaws
