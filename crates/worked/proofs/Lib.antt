pub mod Examples
pub mod AppendingDay
pub mod WorkedDays
pub mod Reports
